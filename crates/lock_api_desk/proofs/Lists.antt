-- Look-ups in a mapped list.
use Rattle.std.proofs.Common.{◌≡◌, ℕ, suc, ◌+◌, ◌<◌, Bool, true, false, cond, ◌||◌, List, [], ◌∷◌, ◌++◌, map, length}
use Rattle.std.proofs.Common.{take, drop, remove, Option, Some, None, slice_get, find, fold, position, nat_lt, refl}
use Rattle.std.proofs.Common.{sym, ap, subst, ◌∙◌, inl, inr, arith}
use Rattle.std.specs.List.{position_or_len, list_any, count_by}
use Rattle.std.specs.Option.{option_map, MatchOption}
use Rattle.std.proofs.lemmas.Option.{none-some, same_Some, slice_get_past}
use Rattle.std.proofs.lemmas.Bool.{cases_Bool, false≢true, ltb-true, ltb-false, or_parts}
use Rattle.std.proofs.lemmas.List.{take-map, drop-map, map-append}
use Rattle.std.proofs.lemmas.List.Folds.{find_at}

module _ {X Y : Type 0} (f : X → Y) where
  pub list_any-map : (p : Y → Bool) (xs : List X) → list_any p (map f xs) ≡ list_any (λ x. p (f x)) xs
  list_any-map p [] = refl
  list_any-map p (x ∷ xs) = ap (λ b. p (f x) || b) (list_any-map p xs)

  cond-option_map : (b : Bool) (x : X) (o : Option X) → cond b (Some (f x)) (option_map f o) ≡ option_map f
      (cond b (Some x) o)
  cond-option_map true x o = refl
  cond-option_map false x o = refl

  pub find-map : (p : Y → Bool) (xs : List X) → find p (map f xs) ≡ option_map f (find (λ x. p (f x)) xs)
  find-map p [] = refl
  find-map p (x ∷ xs) =
      ap (λ o. cond (p (f x)) (Some (f x)) o) (find-map p xs) ∙ cond-option_map (p (f x)) x (find (λ y. p (f y)) xs)

  pub map-remove : (xs : List X) (i : ℕ) → map f (remove xs i) ≡ remove (map f xs) i
  map-remove xs i =
      map-append f (take i xs) (drop (suc i) xs)
      ∙ ap (λ ys. ys ++ map f (drop (suc i) xs)) (sym (take-map f i xs))
      ∙ ap (λ ys. take i (map f xs) ++ ys) (sym (drop-map f (suc i) xs))

cond-Some : (b : Bool) (n i : ℕ) → cond b (Some n) None ≡ Some i → (b ≡ true) × (n ≡ i)
cond-Some true n i e = (refl, same_Some n i e)
cond-Some false n i e = absurd (none-some i e)

cond-None : (b : Bool) (n : ℕ) → cond b (Some n) None ≡ None → b ≡ false
cond-None true n e = absurd (none-some n (sym e))
cond-None false n e = refl

module _ {X : Type 0} where
  -- what a match says at each case
  pub match_None : (o : Option X) (P : Type 0) (Q : X → Type 0) → o ≡ None → P → MatchOption o P Q
  match_None o P Q none p = let F : Option X → Type 0 = λ r. MatchOption r P Q in subst F (sym none) p

  pub match_Some : (o : Option X) (P : Type 0) (Q : X → Type 0) (x : X) → o ≡ Some x → Q x → MatchOption o P Q
  match_Some o P Q x some q = let F : Option X → Type 0 = λ r. MatchOption r P Q in subst F (sym some) q

  -- what is found stands where the position says
  pub find-position : (p : X → Bool) (xs : List X) (i : ℕ) → position p xs ≡ Some i → (find p xs ≡ slice_get xs i)
      × (i < length xs)
  find-position p xs i at =
      let r = cond-Some (nat_lt (position_or_len p xs) (length xs)) (position_or_len p xs) i at in
      let below = ltb-true (position_or_len p xs) (length xs) r.0 in
      let same = r.1 in
      (find_at p xs ∙ ap (λ k. slice_get xs k) same, omega arith)

  -- where there is no position nothing is found
  pub find-no_position : (p : X → Bool) (xs : List X) → position p xs ≡ None → find p xs ≡ None
  find-no_position p xs none =
      find_at p xs ∙ slice_get_past xs (position_or_len p xs)
      (ltb-false (position_or_len p xs) (length xs)
      (cond-None (nat_lt (position_or_len p xs) (length xs)) (position_or_len p xs) none))

  -- where no element passes one test, none passes a narrower one
  pub count_by-none : (p q : X → Bool) → ((x : X) → q x ≡ true → p x ≡ true) → (xs : List X) → list_any p xs ≡ false
      → count_by q xs ≡ 0
  count_by-none p q narrower [] none = refl
  count_by-none p q narrower (x ∷ xs) none =
      let parts = or_parts (p x) (list_any p xs) none in
      let later = count_by-none p q narrower xs parts.1 in
      elim (cases_Bool (q x)) [
        | inl passes ↦ absurd (false≢true (sym parts.0 ∙ narrower x passes))
        | inr fails ↦ ap (λ b. fold (λ a y. a + cond (q y) 1 0) (0 + cond b 1 0) xs) fails ∙ later
      ]
