-- What the refusals of the Arc forms of a reentrant mutex are called and numbered.
use Rattle.std.specs.Prelude.{ℕ, List, codes}
use Rattle.lock_api.specs.declared.arc_fault.ReentrantArcFault.{ReentrantArcFault}
use Rattle.lock_api.specs.declared.arc_fault.ReentrantArcFault.TheVariants.{NoMemory, ReadersFull}

-- the number of a refusal
abbrev pub arc_fault_code : ReentrantArcFault → ℕ
arc_fault_code NoMemory = 99
arc_fault_code ReadersFull = 6

-- its name
abbrev pub arc_fault_name : ReentrantArcFault → List ℕ
arc_fault_name NoMemory = codes "NoMemory"
arc_fault_name ReadersFull = codes "ReadersFull"
