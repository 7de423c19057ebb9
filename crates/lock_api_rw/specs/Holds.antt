-- Raw holds, as contracts see them.
use Rattle.std.specs.Prelude.{◌⊎◌, Option, None, Some, MatchOption}

-- a place where a lock is found, and a token that the lock issued
pub record Issued (L T : Type 0) : Type 0 where
  pub place : L
  pub token : T

-- That a raw try answered None where there is no hold, and the token of the hold where there is one.
abbrev pub Tried : {T H : Type 0} → (Option T → Type 0) → Option H → (H → T) → Type 0
Tried tried found token_of = MatchOption found (tried None) (λ hold. tried (Some (token_of hold)))

-- That the std lock of the value of this lock couldn't be had at once. Nothing opens it but the proofs of the functions
-- that try it, so that who says so has to ask one of them.
unfoldable pub IsValueTaken : {L : Type 0} → L → Type 0
IsValueTaken lock = Unit {0}

-- The same of a lock with its value: where there is no hold the raw try was refused, or the std lock of the value was
-- taken.
abbrev pub TriedWithValue : {L T G : Type 0} → L → (Option T → Type 0) → Option G → (G → T) → Type 0
TriedWithValue lock tried found token_of =
    MatchOption found (IsValueTaken lock ⊎ tried None) (λ guard. tried (Some (token_of guard)))
