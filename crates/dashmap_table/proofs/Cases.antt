-- The cases of an option, and a choice by a test.
use Rattle.std.proofs.Common.{◌≡◌, Bool, true, false, cond, Option, Some, None, refl, inl, inr, ◌⊎◌}

pub option_cases : {X : Type 0} (o : Option X) → (o ≡ None) ⊎ ((x : X) × (o ≡ Some x))
option_cases None = inl refl
option_cases (Some x) = inr (x, refl)

-- a choice is what each of its cases gives
pub choice : {X : Type 0} (b : Bool) (x y z : X) → (b ≡ true → z ≡ x) → (b ≡ false → z ≡ y) → z ≡ cond b x y
choice true x y z then else' = then refl
choice false x y z then else' = else' refl
