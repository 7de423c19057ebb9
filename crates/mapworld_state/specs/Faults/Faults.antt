-- The numbers and the names of the faults.
use Rattle.std.specs.Prelude.{ℕ, List, codes}
use Rattle.mapworld_state.specs.declared.faults.fault.WorldNewFault.{WorldNewFault}
use Rattle.mapworld_state.specs.declared.faults.fault.WorldNewFault.TheVariants as new_fault
use Rattle.mapworld_state.specs.declared.faults.fault.RunFault.{RunFault}
use Rattle.mapworld_state.specs.declared.faults.fault.RunFault.TheVariants as run_fault

abbrev pub new_fault_code : WorldNewFault → ℕ
new_fault_code new_fault.BadShards = 31
new_fault_code new_fault.TooManyThreads = 11
new_fault_code new_fault.TooManyCalls = 51
new_fault_code new_fault.TooManyPairs = 52
new_fault_code new_fault.AsksWhileHolding = 53
new_fault_code new_fault.NoGuardNumbers = 54
new_fault_code new_fault.NoMemory = 99

abbrev pub new_fault_name : WorldNewFault → List ℕ
new_fault_name new_fault.BadShards = codes "BadShards"
new_fault_name new_fault.TooManyThreads = codes "TooManyThreads"
new_fault_name new_fault.TooManyCalls = codes "TooManyCalls"
new_fault_name new_fault.TooManyPairs = codes "TooManyPairs"
new_fault_name new_fault.AsksWhileHolding = codes "AsksWhileHolding"
new_fault_name new_fault.NoGuardNumbers = codes "NoGuardNumbers"
new_fault_name new_fault.NoMemory = codes "NoMemory"

abbrev pub run_fault_code : RunFault → ℕ
run_fault_code (run_fault.NoSuchThread n) = 61
run_fault_code (run_fault.CannotMove n) = 62
run_fault_code (run_fault.StepsShort n) = 63

-- how many steps were done
abbrev pub run_fault_done : RunFault → ℕ
run_fault_done (run_fault.NoSuchThread n) = n
run_fault_done (run_fault.CannotMove n) = n
run_fault_done (run_fault.StepsShort n) = n

abbrev pub run_fault_name : RunFault → List ℕ
run_fault_name (run_fault.NoSuchThread n) = codes "NoSuchThread"
run_fault_name (run_fault.CannotMove n) = codes "CannotMove"
run_fault_name (run_fault.StepsShort n) = codes "StepsShort"
