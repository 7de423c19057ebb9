-- What a report leaves of its writer.
use Rattle.std.specs.Prelude.{◌≡◌, ⊤, Result, Ok, Err}
use Rattle.mapworld_report.specs.declared.ReportFault.{ReportFault}
use Rattle.mapworld_report.specs.declared.ReportFault.TheVariants.{Fault, Write}

-- on a fault of the library the writer is as it was
abbrev pub LeavesOnFault : {X W : Type 0} → Result X ReportFault → W → W → Type 0
LeavesOnFault (Ok x) before after = ⊤
LeavesOnFault (Err (Fault code name)) before after = after ≡ before
LeavesOnFault (Err Write) before after = ⊤
