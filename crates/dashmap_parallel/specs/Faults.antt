-- What the refusals of parallel forms are called and numbered.
use Rattle.std.specs.Prelude.{ℕ, List, codes}
use Rattle.dashmap_parallel.specs.declared.fault.ParExtendFault.{ParExtendFault}
use Rattle.dashmap_parallel.specs.declared.fault.ParExtendFault.TheVariants.{NoThreadData, NoMemory}

abbrev pub no_thread_data_name : List ℕ
no_thread_data_name = codes "NoThreadData"

-- the number of a refusal of an extension
abbrev pub par_extend_fault_code : ParExtendFault → ℕ
par_extend_fault_code NoThreadData = 34
par_extend_fault_code NoMemory = 99

-- its name
abbrev pub par_extend_fault_name : ParExtendFault → List ℕ
par_extend_fault_name NoThreadData = codes "NoThreadData"
par_extend_fault_name NoMemory = codes "NoMemory"
