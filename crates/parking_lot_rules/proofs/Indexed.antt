-- Lists by index: what stands at each index after a write, and sums over a list.
use Rattle.std.proofs.Common.{◌≡◌, ◌≢◌, ℕ, zero, suc, ◌+◌, ◌⊎◌, List, [], ◌∷◌, Some, slice_get, slice_set, sum_by, refl}
use Rattle.std.proofs.Common.{sym, ap, ◌∙◌, subst, inl, inr, arith}
use Rattle.std.proofs.lemmas.Option.{none-some, same_Some, slice_get_within, get_or_from_slice_get}
use Rattle.std.proofs.lemmas.List.Sums as sums

module _ {X : Type 0} where
  pub get-set_same : (xs : List X) (i : ℕ) (x y : X) → slice_get xs i ≡ Some x → slice_get (slice_set xs i y) i ≡ Some y
  get-set_same [] i x y h = absurd (none-some x h)
  get-set_same (z ∷ zs) zero x y h = refl
  get-set_same (z ∷ zs) (suc i) x y h = get-set_same zs i x y h

  pub get-set_other : (xs : List X) (i j : ℕ) (y : X) → i ≢ j → slice_get (slice_set xs i y) j ≡ slice_get xs j
  get-set_other [] i j y ne = refl
  get-set_other (z ∷ zs) zero zero y ne = absurd (ne refl)
  get-set_other (z ∷ zs) zero (suc j) y ne = refl
  get-set_other (z ∷ zs) (suc i) zero y ne = refl
  get-set_other (z ∷ zs) (suc i) (suc j) y ne = get-set_other zs i j y (λ e. ne (ap (λ n. suc n) e))

  pub get-set_cases : (xs : List X) (i j : ℕ) (x0 x y : X) → slice_get xs i ≡ Some x0
      → slice_get (slice_set xs i y) j ≡ Some x → ((j ≡ i) × (x ≡ y)) ⊎ ((j ≢ i) × (slice_get xs j ≡ Some x))
  get-set_cases [] i j x0 x y here h = absurd (none-some x0 here)
  get-set_cases (z ∷ zs) zero zero x0 x y here h = inl (refl, sym (same_Some y x h))
  get-set_cases (z ∷ zs) zero (suc j) x0 x y here h = inr (λ e. omega (arith, e), h)
  get-set_cases (z ∷ zs) (suc i) zero x0 x y here h = inr (λ e. omega (arith, e), h)
  get-set_cases (z ∷ zs) (suc i) (suc j) x0 x y here h =
      elim (get-set_cases zs i j x0 x y here h) [
        | inl a ↦ inl (ap (λ n. suc n) a.0, a.1)
        | inr b ↦ inr (λ e. b.0 (omega (arith, e)), b.1)
      ]

  pub sum_by-set_at : (f : X → ℕ) (xs : List X) (i : ℕ) (x y : X) → slice_get xs i ≡ Some x
      → sum_by f (slice_set xs i y) + f x ≡ sum_by f xs + f y
  sum_by-set_at f xs i x y h =
      let at = get_or_from_slice_get xs i x x h in
      subst (λ (z : X). sum_by f (slice_set xs i y) + f z ≡ sum_by f xs + f y) at
      (sums.sum_by-set f xs i y x (slice_get_within xs i x h))

  -- two that stand in a list and differ in something stand at two places
  pub two_apart : {Y : Type 0} (f : X → Y) (xs : List X) (i j : ℕ) (x y : X) → slice_get xs i ≡ Some x
      → slice_get xs j ≡ Some y → f x ≢ f y → i ≢ j
  two_apart f xs i j x y at there ne e = ne (ap f (same_Some x y (sym at ∙ ap (λ k. slice_get xs k) e ∙ there)))
