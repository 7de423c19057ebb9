-- What whoever calls a one-time initialization gets.
use Rattle.std.specs.Prelude.{◌≡◌, ◌⊎◌, Bool, true, false, List, Some, Result, Ok, Err}
use Rattle.parking_lot_driver.specs.Runs.{IsRun, told_all}
use Rattle.parking_lot_protocol.specs.declared.act.ActResult.{ActResult}
use Rattle.parking_lot_rules.specs.declared.once.once_state.OnceState.{OnceState}
use Rattle.parking_lot_rules.specs.declared.once.wish.Wish.{Wish}
use Rattle.parking_lot_protocol_waits.specs.declared.once.once_phase.OnceAnswer.{OnceAnswer}
use Rattle.parking_lot_protocol_waits.specs.declared.once.once_phase.OnceAnswer.TheVariants as answer
use Rattle.parking_lot_protocol_waits.specs.declared.once.once_phase.OncePhase.{OncePhase}
use Rattle.parking_lot_protocol_waits.specs.declared.once.once_phase.OncePhase.TheVariants.{Asking, Returning}
use Rattle.parking_lot_protocol_waits.specs.Once.OnceTable.{act_of, answer_of, next_phase}
use Rattle.parking_lot_mutex.specs.declared.once.fault.OnceFault.{OnceFault}
use Rattle.parking_lot_mutex.specs.declared.once.fault.OnceFault.TheVariants.{Poisoned, Failed}

-- A call that began in this phase ended by this answer: its core was told nothing but what the acts that it asked for
-- can give. Nothing opens it but the proofs of this crate.
unfoldable pub Answered : OncePhase → OnceAnswer → Type 0
Answered begun answer = (seen : List ActResult) × IsRun next_phase act_of begun seen
    × (answer_of (told_all next_phase begun seen) ≡ Some answer)

-- what a call of each name wants
abbrev pub plain : Wish
plain = record { runs = true; force = false }

abbrev pub forced : Wish
forced = record { runs = true; force = true }

abbrev pub waiting : Wish
waiting = record { runs = false; force = false }

abbrev pub waiting_on : Wish
waiting_on = record { runs = false; force = true }

-- the call is to run its closure, and to hand it this state
abbrev pub MayRun : Wish → OnceState → Type 0
MayRun wish before = Answered (Asking wish) (answer.Runs before)

abbrev pub ended_well : {E : Type 0} → Result (Unit {0}) E → Bool
ended_well (Ok u) = true
ended_well (Err error) = false

-- The closure ran, as one that was to run, and this is how it ended; and that is stored, and all that waited are woken.
abbrev pub Ran : {E : Type 0} → Wish → (OnceState → Result (Unit {0}) E → Type 0) → Result (Unit {0}) E → Type 0
Ran wish may_end end = (before : OnceState) × MayRun wish before × may_end before end
    × Answered (Returning (ended_well end)) answer.Finished

-- what a call answers whose closure ends so: Ok where a closure has ended well, the own or an earlier one
abbrev pub Calls : {E : Type 0} → Wish → (OnceState → Result (Unit {0}) E → Type 0) → Result (Unit {0}) E → Type 0
Calls wish may_end (Ok u) = Answered (Asking wish) answer.Completed ⊎ Ran wish may_end (Ok u)
Calls wish may_end (Err error) = Ran wish may_end (Err error)

-- the same of one that is refused where the last closure has failed
abbrev pub CallsUnlessPoisoned : {E : Type 0} → (Result (Unit {0}) E → Type 0) → Result (Unit {0}) (OnceFault E)
    → Type 0
CallsUnlessPoisoned may_end (Ok u) = Calls plain (λ before. may_end) (Ok u)
CallsUnlessPoisoned may_end (Err Poisoned) = Answered (Asking plain) answer.Poisoned
CallsUnlessPoisoned may_end (Err (Failed error)) = Calls plain (λ before. may_end) (Err error)

-- what one that only waits answers
abbrev pub WaitEnds : {F : Type 0} → Result (Unit {0}) F → Type 0
WaitEnds (Ok u) = Answered (Asking waiting) answer.Completed
WaitEnds (Err fault) = Answered (Asking waiting) answer.Poisoned
