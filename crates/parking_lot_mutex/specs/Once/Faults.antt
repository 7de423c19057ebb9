-- The numbers of refusals.
use Rattle.std.specs.Prelude.{ℕ, Option, Some, None}
use Rattle.parking_lot_mutex.specs.declared.once.fault.OnceFault.{OnceFault}
use Rattle.parking_lot_mutex.specs.declared.once.fault.OnceFault.TheVariants.{Poisoned, Failed}

-- a closure's own error has none
abbrev pub fault_code : {E : Type 0} → OnceFault E → Option ℕ
fault_code Poisoned = Some 24
fault_code (Failed error) = None
