-- What the refusals are called and numbered.
use Rattle.std.specs.Prelude.{ℕ, List, codes}
use Rattle.parking_lot_core_model.specs.declared.fault.SizeFault.{SizeFault}
use Rattle.parking_lot_core_model.specs.declared.fault.SizeFault.TheVariants as size
use Rattle.parking_lot_core_model.specs.declared.fault.LotFault.{LotFault}
use Rattle.parking_lot_core_model.specs.declared.fault.LotFault.TheVariants as lot

-- the number of a refused constructor
abbrev pub size_fault_code : SizeFault → ℕ
size_fault_code size.BadSize = 20
size_fault_code size.NoMemory = 99

-- its name
abbrev pub size_fault_name : SizeFault → List ℕ
size_fault_name size.BadSize = codes "BadSize"
size_fault_name size.NoMemory = codes "NoMemory"

-- the number of a refused step
abbrev pub lot_fault_code : LotFault → ℕ
lot_fault_code lot.TooManyThreads = 11
lot_fault_code lot.Busy = 12
lot_fault_code lot.WrongStatus = 13
lot_fault_code lot.NoMemory = 99

-- its name
abbrev pub lot_fault_name : LotFault → List ℕ
lot_fault_name lot.TooManyThreads = codes "TooManyThreads"
lot_fault_name lot.Busy = codes "Busy"
lot_fault_name lot.WrongStatus = codes "WrongStatus"
lot_fault_name lot.NoMemory = codes "NoMemory"
