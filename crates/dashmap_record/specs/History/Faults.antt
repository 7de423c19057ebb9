-- What the faults of gathering are called and numbered.
use Rattle.std.specs.Prelude.{ℕ, List, codes}
use Rattle.dashmap_record.specs.declared.history.fault.GatherFault.{GatherFault}
use Rattle.dashmap_record.specs.declared.history.fault.GatherFault.TheVariants.{StampOrder, NotInLog, NotInHistory}
use Rattle.dashmap_record.specs.declared.history.fault.GatherFault.TheVariants.{WrongShard, WrongHash, WrongReply}
use Rattle.dashmap_record.specs.declared.history.fault.GatherFault.TheVariants.{NoMemory}

abbrev pub gather_fault_code : GatherFault → ℕ
gather_fault_code StampOrder = 42
gather_fault_code NotInLog = 43
gather_fault_code NotInHistory = 44
gather_fault_code WrongShard = 45
gather_fault_code WrongHash = 46
gather_fault_code WrongReply = 47
gather_fault_code NoMemory = 99

abbrev pub gather_fault_name : GatherFault → List ℕ
gather_fault_name StampOrder = codes "StampOrder"
gather_fault_name NotInLog = codes "NotInLog"
gather_fault_name NotInHistory = codes "NotInHistory"
gather_fault_name WrongShard = codes "WrongShard"
gather_fault_name WrongHash = codes "WrongHash"
gather_fault_name WrongReply = codes "WrongReply"
gather_fault_name NoMemory = codes "NoMemory"
