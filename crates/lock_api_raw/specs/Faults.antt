-- What the refusals of locks are called and numbered.
use Rattle.std.specs.Prelude.{ℕ, List, codes}
use Rattle.lock_api_raw.specs.declared.fault.WaitFault.{WaitFault}
use Rattle.lock_api_raw.specs.declared.fault.WaitFault.TheVariants.{WrongMutex, WrongLot}

-- the number of a refused wait
abbrev pub wait_fault_code : WaitFault → ℕ
wait_fault_code WrongMutex = 23
wait_fault_code WrongLot = 22

-- its name
abbrev pub wait_fault_name : WaitFault → List ℕ
wait_fault_name WrongMutex = codes "WrongMutex"
wait_fault_name WrongLot = codes "WrongLot"
