-- A section takes the next waiter that its filter wants, and nobody only where it passes all.
use Rattle.std.proofs.Common.{◌≡◌, ◌≢◌, ◌≤◌, ℕ, zero, suc, ◌+◌, ◌-◌, inl, inr, List, [], ◌∷◌, length, drop, Option}
use Rattle.std.proofs.Common.{Some, None, Result, Ok, slice_get, count_by, refl, sym, ap, ◌∙◌, subst, arith}
use Rattle.std.specs.Prelude.{MatchBool, IsSomeAnd}
use Rattle.std.specs.List.{list_any}
use Rattle.std.specs.Option.{option_map, option_flatten}
use Rattle.std.specs.Result.{result_ok}
use Rattle.std.proofs.lemmas.Bool.{cases_lt}
use Rattle.std.proofs.lemmas.Option.{none-some, same_Some}
use Rattle.parking_lot_core_model.specs.declared.fault.LotFault.{LotFault}
use Rattle.parking_lot_core_model.specs.declared.parking.FilterOp.{FilterOp}
use Rattle.parking_lot_core_model.specs.declared.parking.FilterOp.TheVariants.{Unpark, Skip, Stop}
use Rattle.parking_lot_core_model.specs.declared.parking.ParkToken.{ParkToken}
use Rattle.parking_lot_core_model.specs.declared.place.Phase.TheVariants as phase
use Rattle.parking_lot_core_model.specs.declared.place.Section.{Section}
use Rattle.parking_lot_core_model.specs.declared.place.Taking.{Taking}
use Rattle.parking_lot_core_model.specs.declared.place.Waiter.{Waiter}
use Rattle.parking_lot_core_model.specs.Machine.{Machine, tokens_of, taking_of, in_phase, taken, section_of, step_fault}
use Rattle.parking_lot_core_model.specs.Machine.{Does, Unless, TakesNext, TakesInSection}
use Rattle.parking_lot_core_model.specs.Places.{may_take, passed_of}
use Rattle.parking_lot_core_model.specs.Results.{Answers, is_no_skip, is_take, is_skip}
use Rattle.parking_lot_core_model.proofs.Numbers.{count_by-cons}
use Rattle.parking_lot_machine.specs.Passes.{ArePassed}
use Rattle.parking_lot_machine.specs.NextTakings.{NextTaken}

-- an index behind the first n
behind : (n i : ℕ) → n ≤ i → n + (i - n) ≡ i
behind n i h = omega (arith, h)

-- what is left of a list, by its index
left_of : (q : List Waiter) (n i : ℕ) → slice_get (drop n q) i ≡ slice_get q (n + i)
left_of q zero i = ap (slice_get q) (omega arith)
left_of [] (suc n) i = refl
left_of (x ∷ q) (suc n) i = let more : suc (n + i) ≡ suc n + i = omega arith in left_of q n i
    ∙ ap (slice_get (x ∷ q)) more

module _ {F : Type 0} (gives : F → ParkToken → FilterOp → F → Type 0) (filter : F) (old new : Machine)
    (result : Result (Option Taking) LotFault) (key : ℕ) (ask : ℕ → FilterOp) (stops : (token : ℕ) → ask token ≢ Stop)
    (same : (token : ParkToken) (op : FilterOp) (g : F) → gives filter token op g → (op ≡ ask token.0) × (g ≡ filter))
  where
    abbrev queue : List Waiter
    queue = old.queues key

    abbrev After : List FilterOp → ℕ → Type 0
    After answers passed =
        let at = passed + count_by is_skip answers in
        MatchBool (list_any is_take answers)
        ((result ≡ Ok (option_map (taking_of old) (slice_get queue at)))
        × (new ≡ taken (in_phase old key (phase.Taking at)) key at))
        ((result ≡ Ok None) × (new ≡ in_phase old key phase.Ended))

    -- one more is passed
    passes : (n : ℕ) (w : Waiter) → ArePassed ask queue n → slice_get queue n ≡ Some w → ask w.token.0 ≡ Skip
        → ArePassed ask queue (n + 1)
    passes n w before at skip i v low is = elim (cases_lt i n) [
      | inl b ↦ before i v b is
      | inr b ↦
          let last : i ≡ n = omega (arith, low, b) in
          subst (λ (x : Waiter). ask x.token.0 ≡ Skip) (same_Some w v (sym at ∙ ap (slice_get queue) (sym last) ∙ is))
          skip
    ]

    -- where nothing is left all are
    passes_all : (n : ℕ) → ArePassed ask queue n → ((i : ℕ) → slice_get queue (n + i) ≡ None)
        → ArePassed ask queue (length queue)
    passes_all n before none i w low is = elim (cases_lt i n) [
      | inl b ↦ before i w b is
      | inr b ↦ absurd (none-some w (sym (none (i - n)) ∙ ap (slice_get queue) (behind n i b) ∙ is))
    ]

    walks : (ws : List Waiter) (n : ℕ) → ((i : ℕ) → slice_get ws i ≡ slice_get queue (n + i)) → ArePassed ask queue n
        → (answers : List FilterOp) (last : F) → Answers gives is_no_skip filter (tokens_of ws) answers last
        → After answers n → NextTaken ask old new result key
    walks [] n rest before [] last given after = inr (passes_all n before (λ i. sym (rest i)), after.0, after.1)
    walks [] n rest before (op ∷ ops) last given after = absurd given
    walks (w ∷ ws) n rest before [] last given after = absurd given
    walks (w ∷ ws) n rest before (Unpark ∷ ops) last given after = ends ops given.2.0 after
      where
        there : slice_get queue n ≡ Some w
        there = ap (slice_get queue) (omega arith) ∙ sym (rest 0)

        ends : (ops : List FilterOp) → ops ≡ [] → After (Unpark ∷ ops) n → NextTaken ask old new result key
        ends ops none after =
            let at_once : After (Unpark ∷ []) n = subst (λ (xs : List FilterOp). After (Unpark ∷ xs) n) none after in
            let here : (result ≡ Ok (option_map (taking_of old) (slice_get queue n)))
            × (new ≡ taken (in_phase old key (phase.Taking n)) key n) =
            subst (λ (m : ℕ). (result ≡ Ok (option_map (taking_of old) (slice_get queue m)))
            × (new ≡ taken (in_phase old key (phase.Taking m)) key m)) (omega arith) at_once in
            inl (
              n,
              w,
              record { there = there; wanted = sym (same w.token Unpark given.0 given.1).0; passed = before },
              here.0 ∙ ap (λ o. Ok (option_map (taking_of old) o)) there,
              here.1,
            )
    walks (w ∷ ws) n rest before (Skip ∷ ops) last given after =
        let said = same w.token Skip given.0 given.1 in
        let there : slice_get queue n ≡ Some w = ap (slice_get queue) (omega arith) ∙ sym (rest 0) in
        walks ws (n + 1) (λ i. rest (suc i) ∙ ap (slice_get queue) (omega arith)) (passes n w before there (sym said.0))
        ops last
        (subst (λ (f : F). Answers gives is_no_skip f (tokens_of ws) ops last) said.1 given.2)
        (subst (λ (m : ℕ). MatchBool (list_any is_take ops)
        ((result ≡ Ok (option_map (taking_of old) (slice_get queue m)))
        × (new ≡ taken (in_phase old key (phase.Taking m)) key m))
        ((result ≡ Ok None) × (new ≡ in_phase old key phase.Ended))) (omega (arith, count_by-cons is_skip Skip ops))
        after)
    walks (w ∷ ws) n rest before (Stop ∷ ops) last given after =
        absurd (stops w.token.0 (sym (same w.token Stop given.0 given.1).0))

-- the same, of the lot's own clause
pub nexts_taken : {F : Type 0} (gives : F → ParkToken → FilterOp → F → Type 0) (filter : F) (ask : ℕ → FilterOp)
    (o : Section) (old new : Machine) (result : Result (Option Taking) LotFault)
    → ArePassed ask (old.queues o.key) (passed_of o.phase)
    → ((token : ℕ) → ask token ≢ Stop)
    → ((token : ParkToken) (op : FilterOp) (g : F) → gives filter token op g → (op ≡ ask token.0) × (g ≡ filter))
    → TakesNext gives filter o old result new → NextTaken ask old new result o.key
nexts_taken gives filter ask o old new result before stops same takes =
    walks gives filter old new result o.key ask stops same (drop (passed_of o.phase) (old.queues o.key))
    (passed_of o.phase) (left_of (old.queues o.key) (passed_of o.phase)) before takes.0 takes.1 takes.2 takes.3

-- what the lot's call answers, taken out of its result
module _ {F : Type 0} (gives : F → ParkToken → FilterOp → F → Type 0) (filter : F) (t : ℕ) (old new : Machine)
    (result : Result (Option Taking) LotFault) (taking : Option Taking)
    (found : taking ≡ option_flatten (result_ok result)) where
  abbrev ok : Option Taking → Result (Option Taking) LotFault
  ok x = Ok x

  unwrapped : (ask : ℕ → FilterOp) (key : ℕ) → NextTaken ask old new result key → NextTaken ask old new (Ok taking) key
  unwrapped ask key next =
      let is : (x : Option Taking) → result ≡ Ok x → ok taking ≡ ok x =
      λ x e. ap ok (found ∙ ap (λ r. option_flatten (result_ok r)) e) in
      elim next [ inl f ↦ inl (f.0, f.1, f.2, is _ f.3, f.4) | inr f ↦ inr (f.0, is _ f.1, f.2) ]

  pub next_taken : (ask : ℕ → FilterOp) → step_fault may_take old t ≡ None
      → Does (λ m. step_fault may_take m t) (TakesInSection gives filter t) old result new → (o : Section)
      → section_of old t ≡ Some o → ArePassed ask (old.queues o.key) (passed_of o.phase)
      → ((token : ℕ) → ask token ≢ Stop)
      → ((token : ParkToken) (op : FilterOp) (g : F) → gives filter token op g → (op ≡ ask token.0) × (g ≡ filter))
      → NextTaken ask old new (Ok taking) o.key
  next_taken ask free done o there before stops same =
      let takes = subst (λ f. Unless f result old new (TakesInSection gives filter t old result new)) free done in
      unwrapped ask o.key
      (nexts_taken gives filter ask o old new result before stops same
      (subst (λ x. IsSomeAnd x (λ s. TakesNext gives filter s old result new)) there takes))
