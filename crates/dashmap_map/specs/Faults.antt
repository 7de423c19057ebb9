-- What the refusals of the running map are called and numbered.
use Rattle.std.specs.Prelude.{ℕ, List, codes, Result, Ok, Err}
use Rattle.dashmap_table.specs.Faults.{map_fault_code, map_fault_name}
use Rattle.dashmap_map.specs.declared.fault.NewFault.{NewFault}
use Rattle.dashmap_map.specs.declared.fault.NewFault.TheVariants.{Map, NoRandom}
use Rattle.dashmap_map.specs.declared.fault.UntilFault.{UntilFault}
use Rattle.dashmap_map.specs.declared.fault.UntilFault.TheVariants.{Locked, NoMemory}

-- the number of a refusal
abbrev pub new_fault_code : NewFault → ℕ
new_fault_code (Map fault) = map_fault_code fault
new_fault_code NoRandom = 36

-- its name
abbrev pub new_fault_name : NewFault → List ℕ
new_fault_name (Map fault) = map_fault_name fault
new_fault_name NoRandom = codes "NoRandom"

module _ {P : Type 0} where
  -- the number of why nothing was stored in time
  abbrev pub until_code : UntilFault P → ℕ
  until_code (Locked back) = 35
  until_code (NoMemory back) = 99

  -- its name
  abbrev pub until_name : UntilFault P → List ℕ
  until_name (Locked back) = codes "Locked"
  until_name (NoMemory back) = codes "NoMemory"

  -- what comes back
  abbrev pub until_pair : UntilFault P → P
  until_pair (Locked back) = back
  until_pair (NoMemory back) = back

  -- what holds of a call whose wait was given up, and else of what it answers as if it had waited for good
  abbrev pub by_until : {R : Type 0} → Type 0 → (Result R P → Type 0) → Result R (UntilFault P) → Type 0
  by_until late made (Ok r) = made (Ok r)
  by_until late made (Err (Locked back)) = late
  by_until late made (Err (NoMemory back)) = made (Err back)
