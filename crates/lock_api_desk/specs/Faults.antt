-- What the refusals of a desk are called and numbered.
use Rattle.std.specs.Prelude.{ℕ, List, codes}
use Rattle.lock_api_desk.specs.declared.fault.DeskFault.{DeskFault}
use Rattle.lock_api_desk.specs.declared.fault.DeskFault.TheVariants.{WouldWait, Taken, NoSuchGuard, WrongMode}
use Rattle.lock_api_desk.specs.declared.fault.DeskFault.TheVariants.{NotTheParty, ReadersFull, GuardInUse, NoMemory}

-- the number of a refusal
abbrev pub fault_code : DeskFault → ℕ
fault_code WouldWait = 1
fault_code Taken = 2
fault_code NoSuchGuard = 3
fault_code WrongMode = 4
fault_code NotTheParty = 5
fault_code ReadersFull = 6
fault_code GuardInUse = 7
fault_code NoMemory = 99

-- its name
abbrev pub fault_name : DeskFault → List ℕ
fault_name WouldWait = codes "WouldWait"
fault_name Taken = codes "Taken"
fault_name NoSuchGuard = codes "NoSuchGuard"
fault_name WrongMode = codes "WrongMode"
fault_name NotTheParty = codes "NotTheParty"
fault_name ReadersFull = codes "ReadersFull"
fault_name GuardInUse = codes "GuardInUse"
fault_name NoMemory = codes "NoMemory"
