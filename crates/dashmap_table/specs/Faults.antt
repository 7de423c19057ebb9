-- What the refusals of maps are called and numbered.
use Rattle.std.specs.Prelude.{ℕ, List, codes}
use Rattle.dashmap_table.specs.declared.fault.MapFault.{MapFault}
use Rattle.dashmap_table.specs.declared.fault.MapFault.TheVariants.{TableFull, BadShards, CapacityOverflow, NoMemory}

-- the number of a refused constructor
abbrev pub map_fault_code : MapFault → ℕ
map_fault_code TableFull = 21
map_fault_code BadShards = 31
map_fault_code CapacityOverflow = 32
map_fault_code NoMemory = 99

-- its name
abbrev pub map_fault_name : MapFault → List ℕ
map_fault_name TableFull = codes "TableFull"
map_fault_name BadShards = codes "BadShards"
map_fault_name CapacityOverflow = codes "CapacityOverflow"
map_fault_name NoMemory = codes "NoMemory"
