-- Holds that were had and given up, as contracts see them.

use Rattle.std.specs.Prelude.{◌≡◌}

-- a hold of the lock was had
abbrev pub WasHeld : {Hold Lock : Type 0} → (Hold → Lock) → Lock → Type 0
WasHeld {Hold} lock_of lock = (hold : Hold) × (lock_of hold ≡ lock)

-- a hold of the lock was given up: there is what is left of it
abbrev pub WasReleased : {Apart Lock : Type 0} → (Apart → Lock) → Lock → Type 0
WasReleased {Apart} apart_of lock = (apart : Apart) × (apart_of apart ≡ lock)

-- a hold was given up in that way: there is what this left
abbrev pub WasReleasedBy : {Hold Apart : Type 0} → (Hold → Apart → Type 0) → Hold → Type 0
WasReleasedBy {Hold} {Apart} left hold = (apart : Apart) × left hold apart
