-- What a filter is shown, and answers.
use Rattle.std.proofs.Common.{◌≡◌, ℕ, ◌+◌, ◌<◌, ◌≤◌, Bool, true, false, cond, Option, List, [], ◌∷◌, ◌++◌, length, map}
use Rattle.std.proofs.Common.{take, drop, remove, Some, None, slice_get, refl, sym, ap, ◌∙◌, subst, append_assoc, arith}
use Rattle.std.proofs.Common.{zero, suc, count_by, add-zero, add-one, ◌||◌}
use Rattle.std.proofs.lemmas.Option.{slice_get_within}
use Rattle.std.specs.List.{list_any}
use Rattle.std.specs.Bool.{MatchBool}
use Rattle.std.proofs.lemmas.List.{append-nil, drop_all}
use Rattle.std.proofs.lemmas.List.Folds.{list_any-append}
use Rattle.std.proofs.lemmas.Bool.{cond-true, cond-false}
use Rattle.parking_lot_core_model.specs.declared.parking.ParkToken.{ParkToken}
use Rattle.parking_lot_core_model.specs.declared.parking.FilterOp.{FilterOp}
use Rattle.parking_lot_core_model.specs.declared.parking.FilterOp.TheVariants.{Unpark, Skip, Stop}
use Rattle.parking_lot_core_model.specs.declared.place.Waiter.{Waiter}
use Rattle.parking_lot_core_model.specs.Results.{Answers, is_take, is_skip, is_no_skip}
use Rattle.parking_lot_core_model.specs.Machine.{tokens_of}
use Rattle.parking_lot_core_model.proofs.Numbers.{count_by-push}

module _ {X : Type 0} where
  -- a list from one of its elements on
  pub drop_from : (xs : List X) (i : ℕ) (x : X) → slice_get xs i ≡ Some x → drop i xs ≡ x ∷ drop (i + 1) xs
  drop_from xs i x h = rw add-one (from xs i x h)
    where
      from : (xs : List X) (i : ℕ) (x : X) → slice_get xs i ≡ Some x → drop i xs ≡ x ∷ drop (suc i) xs
      from [] i x h = absurd (omega (arith, slice_get_within [] i x h))
      from (y ∷ xs) zero x h = ap (λ z. z ∷ xs) (same h)
        where
          same : {a b : X} → Some a ≡ Some b → a ≡ b
          same e = cc
      from (y ∷ xs) (suc i) x h = from xs i x h

  -- one more element for a test
  pub list_any_more : (p : X → Bool) (xs : List X) (x : X) → list_any p (xs ++ x ∷ []) ≡ (list_any p xs || p x)
  list_any_more p xs x = list_any-append p xs (x ∷ []) ∙ ap (λ b. list_any p xs || b) (or_false (p x))
    where
      or_false : (b : Bool) → (b || false) ≡ b
      or_false true = refl
      or_false false = refl

module _ {F : Type 0} (gives : F → ParkToken → FilterOp → F → Type 0) (ends : FilterOp → Bool) where
  -- so far it gave these answers, and what it gives to the rest comes behind them
  abbrev pub Shown : F → List ParkToken → List FilterOp → F → List ParkToken → Type 0
  Shown f0 all asked f tokens = (answers : List FilterOp) (last : F) → Answers gives ends f tokens answers last
      → Answers gives ends f0 all (asked ++ answers) last

  asked_one : (f g : F) (token : ParkToken) (tokens : List ParkToken) (a : FilterOp) (answers : List FilterOp)
      (last : F) (b : Bool) → ends a ≡ b → gives f token a g
      → MatchBool b ((answers ≡ []) × (g ≡ last)) (Answers gives ends g tokens answers last)
      → Answers gives ends f (token ∷ tokens) (a ∷ answers) last
  asked_one f g token tokens a answers last b e h rest = (
    g,
    h,
    subst (λ (c : Bool). MatchBool c ((answers ≡ []) × (g ≡ last)) (Answers gives ends g tokens answers last))
        (sym e) rest,
  )

  pub shown_more : (f0 : F) (all : List ParkToken) (asked : List FilterOp) (f g : F) (token : ParkToken)
      (tokens : List ParkToken) (a : FilterOp)
      → Shown f0 all asked f (token ∷ tokens) → gives f token a g → ends a ≡ false
      → Shown f0 all (asked ++ a ∷ []) g tokens
  shown_more f0 all asked f g token tokens a so h goes answers last rest =
      subst (λ (xs : List FilterOp). Answers gives ends f0 all xs last) (sym (append_assoc asked (a ∷ []) answers))
      (so (a ∷ answers) last (asked_one f g token tokens a answers last false goes h rest))

  pub shown_stop : (f0 : F) (all : List ParkToken) (asked : List FilterOp) (f g : F) (token : ParkToken)
      (tokens : List ParkToken) (a : FilterOp)
      → Shown f0 all asked f (token ∷ tokens) → gives f token a g → ends a ≡ true
      → Answers gives ends f0 all (asked ++ a ∷ []) g
  shown_stop f0 all asked f g token tokens a so h stops =
      so (a ∷ []) g (asked_one f g token tokens a [] g true stops h (refl, refl))

  pub shown_end : (f0 : F) (all : List ParkToken) (asked : List FilterOp) (f : F) → Shown f0 all asked f []
      → Answers gives ends f0 all asked f
  shown_end f0 all asked f so = subst (λ (xs : List FilterOp). Answers gives ends f0 all xs f) (append-nil asked)
      (so [] f refl)

-- a step of a section seeks a waiter
module _ {F : Type 0} (gives : F → ParkToken → FilterOp → F → Type 0) (f0 : F) (queue : List Waiter) (passed : ℕ) where
  -- those before that index were passed
  abbrev pub Sought : F → ℕ → Type 0
  Sought f at = (asked : List FilterOp) × (list_any is_take asked ≡ false) × (passed + count_by is_skip asked ≡ at)
      × Shown gives is_no_skip f0 (tokens_of (drop passed queue)) asked f (tokens_of (drop at queue))

  abbrev pub Found : Option ℕ → Type 0
  Found found = (answers : List FilterOp) × (last : F) × Answers gives is_no_skip f0 (tokens_of (drop passed queue))
      answers last × (found ≡ cond (list_any is_take answers) (Some (passed + count_by is_skip answers)) None)

  module _ (f : F) (at : ℕ) (w : Waiter) (g : F) (here : slice_get queue at ≡ Some w) where
    next_token : tokens_of (drop at queue) ≡ w.token ∷ tokens_of (drop (at + 1) queue)
    next_token = ap tokens_of (drop_from queue at w here)

    ahead : (s : Sought f at) → Shown gives is_no_skip f0 (tokens_of (drop passed queue)) s.0 f
        (w.token ∷ tokens_of (drop (at + 1) queue))
    ahead s = subst (λ (ts : List ParkToken). Shown gives is_no_skip f0 (tokens_of (drop passed queue)) s.0 f ts)
        next_token s.3

    pub sought_takes : Sought f at → gives f w.token Unpark g → Found (Some at)
    sought_takes s h =
        let any : list_any is_take (s.0 ++ Unpark ∷ []) ≡ true = list_any_more is_take s.0 Unpark
        ∙ ap (λ b. b || true) s.1 in
        let count : passed + count_by is_skip (s.0 ++ Unpark ∷ []) ≡ at =
        ap (λ n. passed + n) (count_by-push is_skip s.0 Unpark ∙ add-zero (count_by is_skip s.0)) ∙ s.2 in (
          s.0 ++ Unpark ∷ [],
          g,
          shown_stop gives is_no_skip f0 (tokens_of (drop passed queue)) s.0 f g w.token
              (tokens_of (drop (at + 1) queue)) Unpark (ahead s) h refl,
          ap (λ n. Some n) (sym count)
              ∙ sym (cond-true (list_any is_take (s.0 ++ Unpark ∷ []))
              (Some (passed + count_by is_skip (s.0 ++ Unpark ∷ []))) None any),
        )

    pub sought_stops : Sought f at → gives f w.token Stop g → Found None
    sought_stops s h =
        let any : list_any is_take (s.0 ++ Stop ∷ []) ≡ false = list_any_more is_take s.0 Stop
        ∙ ap (λ b. b || false) s.1 in (
          s.0 ++ Stop ∷ [],
          g,
          shown_stop gives is_no_skip f0 (tokens_of (drop passed queue)) s.0 f g w.token
              (tokens_of (drop (at + 1) queue)) Stop (ahead s) h refl,
          sym (cond-false (list_any is_take (s.0 ++ Stop ∷ [])) (Some (passed + count_by is_skip (s.0 ++ Stop ∷ [])))
              None any),
        )

    pub sought_passes : Sought f at → gives f w.token Skip g → Sought g (at + 1)
    sought_passes s h = (
      s.0 ++ Skip ∷ [],
      list_any_more is_take s.0 Skip ∙ ap (λ b. b || false) s.1,
      (let n = count_by-push is_skip s.0 Skip in let e = s.2 in omega arith),
      shown_more gives is_no_skip f0 (tokens_of (drop passed queue)) s.0 f g w.token (tokens_of (drop (at + 1) queue))
          Skip (ahead s) h refl,
    )

  pub sought_ends : (f : F) (at : ℕ) → length queue ≤ at → Sought f at → Found None
  sought_ends f at past s = (
    s.0,
    f,
    shown_end gives is_no_skip f0 (tokens_of (drop passed queue)) s.0 f
        (subst (λ (ts : List ParkToken). Shown gives is_no_skip f0 (tokens_of (drop passed queue)) s.0 f ts)
        (ap tokens_of (drop_all at queue past)) s.3),
    sym (cond-false (list_any is_take s.0) (Some (passed + count_by is_skip s.0)) None s.1),
  )
