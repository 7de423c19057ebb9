-- What `find` and `position` answer, by the elements of the list.
use Rattle.std.proofs.Common.{◌≡◌, ℕ, zero, suc, ◌<◌, Bool, true, false, List, [], ◌∷◌, length, get_or, Option, Some}
use Rattle.std.proofs.Common.{None, slice_get, find, position, nat_lt, refl, sym, ap, ◌∙◌, inl, inr, arith, ltb-false}
use Rattle.std.specs.List.{position_or_len}
use Rattle.std.specs.Option.{option_and_then}
use Rattle.std.proofs.lemmas.Option.{none-some, same_Some, slice_get_within, get_or_from_slice_get, slice_get-get_or}
use Rattle.std.proofs.lemmas.Bool.{cases_Bool, cond-true, cond-false, false≢true}
use Rattle.std.proofs.lemmas.List.Sums.{fails_before_first}
use Rattle.std.proofs.lemmas.List.Folds.{find_at}
use Rattle.std.proofs.lemmas.List.Quantifiers.{position-Some}
use Rattle.dashmap_table.proofs.Cases.{option_cases}

-- two look-ups answer the same where one answers what the other does, and nothing where it does
pub same_option : {X : Type 0} (o r : Option X) → ((x : X) → o ≡ Some x → r ≡ Some x) → (o ≡ None → r ≡ None) → r ≡ o
same_option None r some none = none refl
same_option (Some x) r some none = some x refl

module _ {X : Type 0} where
  none_before : (p : X → Bool) (z : X) (zs : List X) (i : ℕ) → p z ≡ false
      → ((k : ℕ) (y : X) → k < i → slice_get zs k ≡ Some y → p y ≡ false) → (k : ℕ) (y : X) → k < suc i
      → slice_get (z ∷ zs) k ≡ Some y → p y ≡ false
  none_before p z zs i fails rest zero y lt at = ap p (sym (same_Some z y at)) ∙ fails
  none_before p z zs i fails rest (suc k) y lt at = rest k y (omega (arith, lt)) at

  -- what is found stands in the list and passes, and nothing before it does
  pub find-Some : (p : X → Bool) (xs : List X) (x : X) → find p xs ≡ Some x → (i : ℕ) × (slice_get xs i ≡ Some x)
      × (p x ≡ true) × ((k : ℕ) (y : X) → k < i → slice_get xs k ≡ Some y → p y ≡ false)
  find-Some p [] x h = absurd (none-some x h)
  find-Some p (z ∷ zs) x h = elim (cases_Bool (p z)) [
    | inl passes ↦
        let same = same_Some z x (sym (cond-true (p z) (Some z) (find p zs) passes) ∙ h) in
        (0, ap (λ w. Some w) same, ap p (sym same) ∙ passes, λ k y lt at. absurd (omega (arith, lt)))
    | inr fails ↦
        let r = find-Some p zs x (sym (cond-false (p z) (Some z) (find p zs) fails) ∙ h) in
        (suc r.0, r.1, r.2, none_before p z zs r.0 fails r.3)
  ]

  -- where nothing is found nothing passes
  pub find-None : (p : X → Bool) (xs : List X) → find p xs ≡ None → (i : ℕ) (x : X) → slice_get xs i ≡ Some x
      → p x ≡ false
  find-None p [] h i x at = absurd (none-some x at)
  find-None p (z ∷ zs) h i x at = elim (cases_Bool (p z)) [
    | inl passes ↦ absurd (none-some z (sym h ∙ cond-true (p z) (Some z) (find p zs) passes))
    | inr fails ↦ at_each p z zs fails (find-None p zs (sym (cond-false (p z) (Some z) (find p zs) fails) ∙ h)) i x at
  ]
    where
      at_each : (p : X → Bool) (z : X) (zs : List X) → p z ≡ false
          → ((i : ℕ) (x : X) → slice_get zs i ≡ Some x → p x ≡ false) → (i : ℕ) (x : X) → slice_get (z ∷ zs) i ≡ Some x
          → p x ≡ false
      at_each p z zs fails rest zero x at = ap p (sym (same_Some z x at)) ∙ fails
      at_each p z zs fails rest (suc i) x at = rest i x at

  -- where nothing passes nothing is found
  pub find-None_from : (p : X → Bool) (xs : List X) → ((i : ℕ) (x : X) → slice_get xs i ≡ Some x → p x ≡ false)
      → find p xs ≡ None
  find-None_from p [] none = refl
  find-None_from p (z ∷ zs) none = cond-false (p z) (Some z) (find p zs) (none 0 z refl)
      ∙ find-None_from p zs (λ i x at. none (suc i) x at)

  -- tests that agree find the same
  pub find-alike : (p q : X → Bool) (xs : List X) → ((x : X) → p x ≡ q x) → find p xs ≡ find q xs
  find-alike p q xs alike = ap (λ test. find test xs) (λ i x. alike x i)

  -- something is found where something passes
  pub find-there : (p : X → Bool) (xs : List X) (i : ℕ) (x : X) → slice_get xs i ≡ Some x → p x ≡ true → (y : X)
      × (find p xs ≡ Some y)
  find-there p xs i x at passes = elim (option_cases (find p xs)) [
    | inl none ↦ absurd (false≢true (sym (find-None p xs none i x at) ∙ passes))
    | inr some ↦ some
  ]

  -- the first place at which the test passes has an element that passes
  pub position-Some_at : (p : X → Bool) (xs : List X) (i : ℕ) → position p xs ≡ Some i → (x : X)
      × (slice_get xs i ≡ Some x) × (p x ≡ true)
  position-Some_at p [] i h = absurd (none-some i h)
  position-Some_at p (z ∷ zs) i h =
      let r = position-Some p (z ∷ zs) i z h in
      (get_or (z ∷ zs) i z, slice_get-get_or (z ∷ zs) i z r.0, r.1)

  pub position-None_at : (p : X → Bool) (xs : List X) → position p xs ≡ None → (i : ℕ) (x : X) → slice_get xs i ≡ Some x
      → p x ≡ false
  position-None_at p xs h i x at = elim (cases_Bool (nat_lt (position_or_len p xs) (length xs))) [
    | inl within ↦ absurd
        (none-some _ (sym h ∙ cond-true (nat_lt (position_or_len p xs) (length xs)) (Some (position_or_len p xs)) None
        within))
    | inr past ↦
        let within = slice_get_within xs i x at in
        let le = ltb-false (position_or_len p xs) (length xs) past in
        ap p (sym (get_or_from_slice_get xs i x x at)) ∙ fails_before_first p xs i x (omega arith)
  ]

  -- `find` reads the list at `position`
  pub find-position : (p : X → Bool) (xs : List X) (i : ℕ) → position p xs ≡ Some i → find p xs ≡ slice_get xs i
  find-position p xs i h = elim (cases_Bool (nat_lt (position_or_len p xs) (length xs))) [
    | inl within ↦
        let same = same_Some _ _
        (sym (cond-true (nat_lt (position_or_len p xs) (length xs)) (Some (position_or_len p xs)) None within) ∙ h)
        in
        find_at p xs ∙ ap (λ k. slice_get xs k) same
    | inr past ↦ absurd
        (none-some i (sym
        (cond-false (nat_lt (position_or_len p xs) (length xs)) (Some (position_or_len p xs)) None past) ∙ h))
  ]

  pub find-no_position : (p : X → Bool) (xs : List X) → position p xs ≡ None → find p xs ≡ None
  find-no_position p xs h = find-None_from p xs (position-None_at p xs h)

  pub find_at_position : (p : X → Bool) (xs : List X) → find p xs ≡ option_and_then (λ i. slice_get xs i)
      (position p xs)
  find_at_position p xs = elim (option_cases (position p xs)) [
    | inl none ↦ find-no_position p xs none ∙ ap (option_and_then (λ i. slice_get xs i)) (sym none)
    | inr some ↦ find-position p xs some.0 some.1 ∙ ap (option_and_then (λ i. slice_get xs i)) (sym some.1)
  ]
