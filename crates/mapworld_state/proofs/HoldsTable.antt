-- What stands in lists of holds.
use Rattle.std.proofs.Common.{◌≡◌, ℕ, zero, suc, List, [], ◌∷◌, Some, slice_get, refl, sym, ap, ◌∙◌}
use Rattle.std.proofs.lemmas.Option.{none-some, same_Some}

-- a list of one has nothing else
pub only-first : {X : Type 0} (xs : List X) (x : X) (i : ℕ) (y : X) → xs ≡ x ∷ [] → slice_get xs i ≡ Some y → (i ≡ 0)
    × (x ≡ y)
only-first {X} xs x i y is at = first i (sym (ap (λ (zs : List X). slice_get zs i) is) ∙ at)
  where
    first : (i : ℕ) → slice_get (x ∷ []) i ≡ Some y → (i ≡ 0) × (x ≡ y)
    first zero h = (refl, same_Some x y h)
    first (suc i) h = absurd (none-some y h)

-- and an empty one nothing
pub none-there : {X : Type 0} (xs : List X) (i : ℕ) (y : X) → xs ≡ [] → ¬ (slice_get xs i ≡ Some y)
none-there {X} xs i y is at = none-some y (sym (ap (λ (zs : List X). slice_get zs i) is) ∙ at)

pub first-there : {X : Type 0} (xs : List X) (x : X) (rest : List X) → xs ≡ x ∷ rest → slice_get xs 0 ≡ Some x
first-there xs x rest is = ap (λ zs. slice_get zs 0) is
