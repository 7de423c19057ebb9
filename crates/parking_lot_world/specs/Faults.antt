-- What the refusals of a run are called and numbered.
use Rattle.std.specs.Prelude.{ℕ, List, codes}
use Rattle.parking_lot_world.specs.declared.fault.WorldRefusal.{WorldRefusal}
use Rattle.parking_lot_world.specs.declared.fault.WorldRefusal.TheVariants.{NoSuchThread, CannotMove}

-- the number of a refusal
abbrev pub refusal_code : WorldRefusal → ℕ
refusal_code NoSuchThread = 61
refusal_code CannotMove = 62

-- its name
abbrev pub refusal_name : WorldRefusal → List ℕ
refusal_name NoSuchThread = codes "NoSuchThread"
refusal_name CannotMove = codes "CannotMove"
