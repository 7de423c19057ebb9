-- What the callers' faults are called and numbered: as the refusals that they are made of.
use Rattle.std.specs.Prelude.{ℕ, List}
use Rattle.parking_lot_core_model.specs.Faults.{size_fault_code, size_fault_name, lot_fault_code, lot_fault_name}
use Rattle.dashmap_table.specs.Faults.{map_fault_code, map_fault_name}
use Rattle.dashmap_record.specs.Faults.{record_fault_code, record_fault_name}
use Rattle.dashmap_record.specs.History.Faults.{gather_fault_code, gather_fault_name}
use Rattle.mapworld_report.specs.declared.callers.fault.CallersFault.{CallersFault}
use Rattle.mapworld_report.specs.declared.callers.fault.CallersFault.TheVariants.{Size, Lot, Map, Call, Gather}

abbrev pub callers_fault_code : CallersFault → ℕ
callers_fault_code (Size fault) = size_fault_code fault
callers_fault_code (Lot fault) = lot_fault_code fault
callers_fault_code (Map fault) = map_fault_code fault
callers_fault_code (Call fault) = record_fault_code fault
callers_fault_code (Gather fault) = gather_fault_code fault

abbrev pub callers_fault_name : CallersFault → List ℕ
callers_fault_name (Size fault) = size_fault_name fault
callers_fault_name (Lot fault) = lot_fault_name fault
callers_fault_name (Map fault) = map_fault_name fault
callers_fault_name (Call fault) = record_fault_name fault
callers_fault_name (Gather fault) = gather_fault_name fault
