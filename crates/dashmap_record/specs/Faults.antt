-- What the refusals of recorded calls are called and numbered.
use Rattle.std.specs.Prelude.{ℕ, List, codes}
use Rattle.dashmap_record.specs.declared.fault.RecordFault.{RecordFault}
use Rattle.dashmap_record.specs.declared.fault.RecordFault.TheVariants.{StampsSpent, NoMemory}

abbrev pub record_fault_code : RecordFault → ℕ
record_fault_code StampsSpent = 41
record_fault_code NoMemory = 99

abbrev pub record_fault_name : RecordFault → List ℕ
record_fault_name StampsSpent = codes "StampsSpent"
record_fault_name NoMemory = codes "NoMemory"
