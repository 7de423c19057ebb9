-- Lists by index: what stands at each index after a write, a push or a removal, and sums over a list.
use Rattle.std.proofs.Common.{◌≡◌, ◌≢◌, ℕ, zero, suc, ◌+◌, ◌≤◌, ◌⊎◌, Bool, cond, List, [], ◌∷◌, ◌++◌, length, Some}
use Rattle.std.proofs.Common.{slice_get, slice_set, remove, sum_by, count_by, refl, sym, ap, ◌∙◌, subst, inl, inr}
use Rattle.std.proofs.Common.{zero-add, suc-add, arith}
use Rattle.std.proofs.lemmas.Option.{none-some, same_Some, slice_get_within, get_or_from_slice_get}
use Rattle.std.proofs.lemmas.List.Sums as sums

module _ {X : Type 0} where
  pub slice_get-set_same : (xs : List X) (i : ℕ) (x y : X) → slice_get xs i ≡ Some x
      → slice_get (slice_set xs i y) i ≡ Some y
  slice_get-set_same [] i x y h = absurd (none-some x h)
  slice_get-set_same (z ∷ zs) zero x y h = refl
  slice_get-set_same (z ∷ zs) (suc i) x y h = slice_get-set_same zs i x y h

  pub slice_get-set_other : (xs : List X) (i j : ℕ) (y : X) → i ≢ j → slice_get (slice_set xs i y) j ≡ slice_get xs j
  slice_get-set_other [] i j y ne = refl
  slice_get-set_other (z ∷ zs) zero zero y ne = absurd (ne refl)
  slice_get-set_other (z ∷ zs) zero (suc j) y ne = refl
  slice_get-set_other (z ∷ zs) (suc i) zero y ne = refl
  slice_get-set_other (z ∷ zs) (suc i) (suc j) y ne = slice_get-set_other zs i j y (λ e. ne (ap (λ n. suc n) e))

  pub slice_get-push_below : (xs : List X) (i : ℕ) (x y : X) → slice_get xs i ≡ Some x
      → slice_get (xs ++ y ∷ []) i ≡ Some x
  slice_get-push_below [] i x y h = absurd (none-some x h)
  slice_get-push_below (z ∷ zs) zero x y h = h
  slice_get-push_below (z ∷ zs) (suc i) x y h = slice_get-push_below zs i x y h

  pub slice_get-push_at : (xs : List X) (y : X) → slice_get (xs ++ y ∷ []) (length xs) ≡ Some y
  slice_get-push_at [] y = refl
  slice_get-push_at (z ∷ zs) y = slice_get-push_at zs y

  pub slice_get-push_cases : (xs : List X) (i : ℕ) (x y : X) → slice_get (xs ++ y ∷ []) i ≡ Some x
      → (slice_get xs i ≡ Some x) ⊎ ((i ≡ length xs) × (x ≡ y))
  slice_get-push_cases [] zero x y h = inr (refl, sym (same_Some y x h))
  slice_get-push_cases [] (suc i) x y h = absurd (none-some x h)
  slice_get-push_cases (z ∷ zs) zero x y h = inl h
  slice_get-push_cases (z ∷ zs) (suc i) x y h =
      elim (slice_get-push_cases zs i x y h) [ inl a ↦ inl a | inr b ↦ inr (ap (λ n. suc n) b.0, b.1) ]

  pub slice_get-set_cases : (xs : List X) (i j : ℕ) (x0 x y : X) → slice_get xs i ≡ Some x0
      → slice_get (slice_set xs i y) j ≡ Some x → ((j ≡ i) × (x ≡ y)) ⊎ ((j ≢ i) × (slice_get xs j ≡ Some x))
  slice_get-set_cases [] i j x0 x y here h = absurd (none-some x0 here)
  slice_get-set_cases (z ∷ zs) zero zero x0 x y here h = inl (refl, sym (same_Some y x h))
  slice_get-set_cases (z ∷ zs) zero (suc j) x0 x y here h = inr (λ e. omega (arith, e), h)
  slice_get-set_cases (z ∷ zs) (suc i) zero x0 x y here h = inr (λ e. omega (arith, e), h)
  slice_get-set_cases (z ∷ zs) (suc i) (suc j) x0 x y here h =
      elim (slice_get-set_cases zs i j x0 x y here h) [
        | inl a ↦ inl (ap (λ n. suc n) a.0, a.1)
        | inr b ↦ inr (λ e. b.0 (omega (arith, e)), b.1)
      ]

-- the index at which an element stood before the one at i was removed
abbrev pub stood_at : ℕ → ℕ → ℕ
stood_at zero j = suc j
stood_at (suc i) zero = zero
stood_at (suc i) (suc j) = suc (stood_at i j)

pub stood_at-other : (i j : ℕ) → stood_at i j ≢ i
stood_at-other zero j e = omega (arith, e)
stood_at-other (suc i) zero e = omega (arith, e)
stood_at-other (suc i) (suc j) e = let h : stood_at i j ≡ i = omega (arith, e) in stood_at-other i j h

pub stood_at-same : (i j k : ℕ) → stood_at i j ≡ stood_at i k → j ≡ k
stood_at-same zero j k e = omega (arith, e)
stood_at-same (suc i) zero zero e = refl
stood_at-same (suc i) zero (suc k) e = absurd (omega (arith, e))
stood_at-same (suc i) (suc j) zero e = absurd (omega (arith, e))
stood_at-same (suc i) (suc j) (suc k) e = let h : stood_at i j ≡ stood_at i k = omega (arith, e) in
    ap (λ n. suc n) (stood_at-same i j k h)

pub stood_at-each : (i k : ℕ) → k ≢ i → (j : ℕ) × (stood_at i j ≡ k)
stood_at-each zero zero ne = absurd (ne refl)
stood_at-each zero (suc k) ne = (k, refl)
stood_at-each (suc i) zero ne = (0, refl)
stood_at-each (suc i) (suc k) ne = let r = stood_at-each i k (λ e. ne (ap (λ n. suc n) e)) in
    (suc r.0, ap (λ n. suc n) r.1)

module _ {X : Type 0} where
  -- what stands at each index once the element at i is removed
  pub slice_get-remove_is : (xs : List X) (i j : ℕ) → slice_get (remove xs i) j ≡ slice_get xs (stood_at i j)
  slice_get-remove_is [] zero j = refl
  slice_get-remove_is [] (suc i) j = refl
  slice_get-remove_is (z ∷ zs) zero j = refl
  slice_get-remove_is (z ∷ zs) (suc i) zero = refl
  slice_get-remove_is (z ∷ zs) (suc i) (suc j) = slice_get-remove_is zs i j

  -- what is left stood at another index
  pub slice_get-remove : (xs : List X) (i j : ℕ) (x : X) → slice_get (remove xs i) j ≡ Some x → (k : ℕ) × (k ≢ i)
      × (slice_get xs k ≡ Some x)
  slice_get-remove xs i j x h = (stood_at i j, stood_at-other i j, sym (slice_get-remove_is xs i j) ∙ h)

  -- what stood at another index is left
  pub slice_get-remove_kept : (xs : List X) (i j : ℕ) (x : X) → j ≢ i → slice_get xs j ≡ Some x → (k : ℕ)
      × (slice_get (remove xs i) k ≡ Some x)
  slice_get-remove_kept xs i j x ne h =
      let r = stood_at-each i j ne in
      (r.0, slice_get-remove_is xs i r.0 ∙ (ap (λ k. slice_get xs k) r.1 ∙ h))

  pub sum_by-set : (f : X → ℕ) (xs : List X) (i : ℕ) (x y : X) → slice_get xs i ≡ Some x
      → sum_by f (slice_set xs i y) + f x ≡ sum_by f xs + f y
  sum_by-set f xs i x y h =
      let at = get_or_from_slice_get xs i x x h in
      subst (λ (z : X). sum_by f (slice_set xs i y) + f z ≡ sum_by f xs + f y) at
      (sums.sum_by-set f xs i y x (slice_get_within xs i x h))

  pub sum_by-at : (f : X → ℕ) (xs : List X) (i : ℕ) (x : X) → slice_get xs i ≡ Some x → f x ≤ sum_by f xs
  sum_by-at f xs i x h =
      let at = get_or_from_slice_get xs i x x h in
      subst (λ (z : X). f z ≤ sum_by f xs) at (sums.get_or-le-sum_by f xs i x (slice_get_within xs i x h))

  pub count_by-push : (p : X → Bool) (xs : List X) (y : X) → count_by p (xs ++ y ∷ []) ≡ count_by p xs + cond (p y) 1 0
  count_by-push p xs y = sums.sum_by_push (λ x. cond (p x) 1 0) xs y

-- two lists one after the other
module _ {X : Type 0} where
  pub slice_get-append_left : (xs ys : List X) (i : ℕ) (x : X) → slice_get xs i ≡ Some x
      → slice_get (xs ++ ys) i ≡ Some x
  slice_get-append_left [] ys i x h = absurd (none-some x h)
  slice_get-append_left (z ∷ zs) ys zero x h = h
  slice_get-append_left (z ∷ zs) ys (suc i) x h = slice_get-append_left zs ys i x h

  pub slice_get-append_right : (xs ys : List X) (i : ℕ) → slice_get (xs ++ ys) (length xs + i) ≡ slice_get ys i
  slice_get-append_right [] ys i = ap (λ n. slice_get ys n) (zero-add i)
  slice_get-append_right (z ∷ zs) ys i =
      ap (λ n. slice_get (z ∷ (zs ++ ys)) n) (suc-add (length zs) i) ∙ slice_get-append_right zs ys i

  pub slice_get-append_cases : (xs ys : List X) (i : ℕ) (x : X) → slice_get (xs ++ ys) i ≡ Some x
      → (slice_get xs i ≡ Some x) ⊎ ((j : ℕ) × (i ≡ length xs + j) × (slice_get ys j ≡ Some x))
  slice_get-append_cases [] ys i x h = inr (i, sym (zero-add i), h)
  slice_get-append_cases (z ∷ zs) ys zero x h = inl h
  slice_get-append_cases (z ∷ zs) ys (suc i) x h = elim (slice_get-append_cases zs ys i x h) [
    | inl a ↦ inl a
    | inr b ↦ inr (b.0, ap (λ n. suc n) b.1 ∙ sym (suc-add (length zs) b.0), b.2)
  ]
