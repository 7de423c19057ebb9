-- What waits answer.
use Rattle.std.specs.Prelude.{Bool, true, Result, Ok, Err}
use Rattle.lock_api_raw.specs.Waits.{IsRefusedRightly}
use Rattle.lock_api_raw.specs.declared.fault.WaitFault.{WaitFault}
use Rattle.lock_api.specs.declared.timed_out.WaitTimeoutResult.{WaitTimeoutResult}

-- the answer of the raw condition variable of which this one tells
abbrev pub timed_answer : Result WaitTimeoutResult WaitFault → Result Bool WaitFault
timed_answer (Ok answer) = Ok answer.0
timed_answer (Err fault) = Err fault

-- the raw condition variable refused a wait so, with some token of the mutex
abbrev pub WasRefused : {G A : Type 0} → Bool → (G → G → Result A WaitFault → Type 0) → WaitFault → Type 0
WasRefused {G} {A} same_lot waited fault = (before : G) × (after : G) × IsRefusedRightly {A = A} same_lot before after
    (Err fault) × waited before after (Err fault)

-- a timed wait on the raw condition variable ran out
abbrev pub RanOut : {G : Type 0} → (G → G → Result Bool WaitFault → Type 0) → Type 0
RanOut {G} waited = (before : G) × (after : G) × waited before after (Ok true)
