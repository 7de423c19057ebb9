-- Elements of a list with one more at its end, and with one taken out.
use Rattle.std.proofs.Common.{◌≡◌, ◌≤◌, ◌<◌, ℕ, ◌+◌, ◌⊎◌, inl, inr, List, [], ◌∷◌, ◌++◌, length, remove, Some, Bool}
use Rattle.std.proofs.Common.{true, false, not, cond, slice_get, slice_set, refl, sym, ap, ◌∙◌, arith, zero, suc}
use Rattle.std.specs.List.{position_or_len}
use Rattle.parking_lot_core_model.proofs.Entering.{none≢some}

-- two that are left stood apart
pub apart_before : (i n m a b : ℕ) → (((n < i) × (a ≡ n)) ⊎ ((i ≤ n) × (a ≡ suc n)))
    → (((m < i) × (b ≡ m)) ⊎ ((i ≤ m) × (b ≡ suc m))) → a ≡ b → n ≡ m
apart_before i n m a b (inl p) (inl q) e = omega (arith, p.1, q.1)
apart_before i n m a b (inl p) (inr q) e = omega (arith, p.0, p.1, q.0, q.1)
apart_before i n m a b (inr p) (inl q) e = omega (arith, p.0, p.1, q.0, q.1)
apart_before i n m a b (inr p) (inr q) e = omega (arith, p.1, q.1)

pub not_removed : (i n m : ℕ) → (((n < i) × (m ≡ n)) ⊎ ((i ≤ n) × (m ≡ suc n))) → m ≡ i → ⊥
not_removed i n m (inl p) e = omega (arith, p.0, p.1)
not_removed i n m (inr p) e = omega (arith, p.0, p.1)

module _ {X : Type 0} where
  same_some : {a b : X} → Some a ≡ Some b → b ≡ a
  same_some e = cc

  -- the last, and those before it
  pub get_push : (xs : List X) (x : X) (n : ℕ) (y : X) → slice_get (xs ++ x ∷ []) n ≡ Some y → (slice_get xs n ≡ Some y)
      ⊎ ((y ≡ x) × (n ≡ length xs))
  get_push [] x zero y h = inr (same_some h, refl)
  get_push [] x (suc n) y h = inl h
  get_push (z ∷ xs) x zero y h = inl h
  get_push (z ∷ xs) x (suc n) y h = go (get_push xs x n y h)
    where
      go : (slice_get xs n ≡ Some y) ⊎ ((y ≡ x) × (n ≡ length xs)) → (slice_get xs n ≡ Some y)
          ⊎ ((y ≡ x) × (suc n ≡ length (z ∷ xs)))
      go (inl e) = inl e
      go (inr e) = inr (e.0, omega (arith, e.1))

  pub get_front : (xs ys : List X) (n : ℕ) (y : X) → slice_get xs n ≡ Some y → slice_get (xs ++ ys) n ≡ Some y
  get_front [] ys n y h = absurd (none≢some h)
  get_front (x ∷ xs) ys zero y h = h
  get_front (x ∷ xs) ys (suc n) y h = get_front xs ys n y h

  -- where an element stood that is left
  pub get_remove : (xs : List X) (i n : ℕ) (y : X) → slice_get (remove xs i) n ≡ Some y → (m : ℕ)
      × (slice_get xs m ≡ Some y) × (((n < i) × (m ≡ n)) ⊎ ((i ≤ n) × (m ≡ suc n)))
  get_remove [] zero n y h = absurd (none≢some h)
  get_remove [] (suc i) n y h = absurd (none≢some h)
  get_remove (x ∷ xs) zero n y h = (suc n, h, inr (omega arith, refl))
  get_remove (x ∷ xs) (suc i) zero y h = (zero, h, inl (omega arith, refl))
  get_remove (x ∷ xs) (suc i) (suc n) y h = let r = get_remove xs i n y h in (suc r.0, r.1, go r.0 r.2)
    where
      go : (m : ℕ) → ((n < i) × (m ≡ n)) ⊎ ((i ≤ n) × (m ≡ suc n)) → ((suc n < suc i) × (suc m ≡ suc n))
          ⊎ ((suc i ≤ suc n) × (suc m ≡ suc (suc n)))
      go m (inl e) = inl (omega (arith, e.0), ap suc e.1)
      go m (inr e) = inr (omega (arith, e.0), ap suc e.1)

  -- and another that stood there is left
  pub kept_remove : (xs : List X) (i m : ℕ) (y : X) → slice_get xs m ≡ Some y → (m ≡ i → ⊥) → (n : ℕ)
      × (slice_get (remove xs i) n ≡ Some y)
  kept_remove [] i m y h apart = absurd (none≢some h)
  kept_remove (x ∷ xs) zero zero y h apart = absurd (apart refl)
  kept_remove (x ∷ xs) zero (suc m) y h apart = (m, h)
  kept_remove (x ∷ xs) (suc i) zero y h apart = (zero, h)
  kept_remove (x ∷ xs) (suc i) (suc m) y h apart = let r = kept_remove xs i m y h (λ e. apart (ap suc e)) in
      (suc r.0, r.1)

  -- the first that passes does
  pub first_is : (p : X → Bool) (xs : List X) (e : X) → slice_get xs (position_or_len p xs) ≡ Some e → p e ≡ true
  first_is p [] e h = absurd (none≢some h)
  first_is p (y ∷ xs) e h =
      let both : (b : Bool) → p y ≡ b → slice_get (y ∷ xs) (cond (not b) (1 + position_or_len p xs) 0) ≡ Some e
      → p e ≡ true = elim [
        | true ↦ λ passes at. ap p (same_some at) ∙ passes
        | false ↦ λ fails at. first_is p xs e (sym (ap (slice_get (y ∷ xs)) (one_more (position_or_len p xs))) ∙ at)
      ] in
      both (p y) refl h
    where
      one_more : (n : ℕ) → 1 + n ≡ suc n
      one_more n = omega arith

  -- an element written twice
  pub set_twice : (xs : List X) (i : ℕ) (x y : X) → slice_set (slice_set xs i x) i y ≡ slice_set xs i y
  set_twice [] i x y = refl
  set_twice (z ∷ xs) zero x y = refl
  set_twice (z ∷ xs) (suc i) x y = ap (λ zs. z ∷ zs) (set_twice xs i x y)
