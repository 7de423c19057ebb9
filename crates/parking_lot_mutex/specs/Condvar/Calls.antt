-- Which core a call of a condition variable was that has ended.
use Rattle.std.specs.Prelude.{◌≡◌, ◌⊎◌, ℕ, nat_lt, Bool, true, false, Result, Ok, Err}
use Rattle.lock_api_raw.specs.declared.fault.WaitFault.{WaitFault}
use Rattle.lock_api_raw.specs.declared.fault.WaitFault.TheVariants.{WrongMutex, WrongLot}
use Rattle.parking_lot_protocol.specs.Timed.Courses.{EndedAt}
use Rattle.parking_lot_protocol_waits.specs.NotifyTable as notify
use Rattle.parking_lot_protocol_waits.specs.WaitTable as wait
use Rattle.parking_lot_protocol_waits.specs.declared.notify_act.NotifyAct.TheVariants as notify_act
use Rattle.parking_lot_protocol_waits.specs.declared.notify_act.NotifySeen.TheVariants as notify_seen
use Rattle.parking_lot_protocol_waits.specs.declared.notify_core.NotifyPhase.TheVariants.{Notifying}
use Rattle.parking_lot_protocol_waits.specs.declared.wait_act.WaitAct.TheVariants.{Done}
use Rattle.parking_lot_protocol_waits.specs.declared.wait_act.WaitAnswer.{WaitAnswer}
use Rattle.parking_lot_protocol_waits.specs.declared.wait_act.WaitAnswer.TheVariants as answer
use Rattle.parking_lot_protocol_waits.specs.declared.wait_act.WaitSeen.TheVariants.{Start}
use Rattle.parking_lot_protocol_waits.specs.declared.wait_core.WaitPhase.{WaitPhase}
use Rattle.parking_lot_protocol_waits.specs.declared.wait_core.WaitPhase.TheVariants.{Waiting, Stranger, GivingWay}

-- a wait that began in this phase ended so
abbrev pub WaitRan : WaitPhase → WaitAnswer → Type 0
WaitRan phase ended = EndedAt wait.Gives wait.wait_told wait.wait_asks Start (record { phase = phase }) (Done ended)

-- A wait with the mutex of that number ended so: it ran, or its thread couldn't sleep there.
abbrev pub WaitEnded : ℕ → WaitAnswer → Type 0
WaitEnded mutex ended = WaitRan (Waiting mutex) ended ⊎ WaitRan GivingWay ended

-- a wait is refused so, with the mutex of that number, or with one of another lot
abbrev pub WaitRefused : ℕ → WaitFault → Type 0
WaitRefused mutex WrongMutex = WaitEnded mutex answer.WrongMutex ⊎ WaitRan Stranger answer.WrongMutex
WaitRefused mutex WrongLot = WaitRan Stranger answer.WrongLot

-- a refusal as the end of a wait
abbrev pub answer_of : WaitFault → WaitAnswer
answer_of WrongMutex = answer.WrongMutex
answer_of WrongLot = answer.WrongLot

-- a wait that isn't refused is one with a mutex of this lot, and one that is refused for its lot isn't
abbrev pub IsOfLotWhere : {A : Type 0} → Bool → Result A WaitFault → Type 0
IsOfLotWhere same_lot (Ok answer) = same_lot ≡ true
IsOfLotWhere same_lot (Err WrongMutex) = Unit {0}
IsOfLotWhere same_lot (Err WrongLot) = same_lot ≡ false

-- a wait without a moment answered so
abbrev pub Waited : ℕ → Result (Unit {0}) WaitFault → Type 0
Waited mutex (Ok u) = WaitEnded mutex answer.Woken
Waited mutex (Err fault) = WaitRefused mutex fault

-- a wait that may give up answered so: whether it timed out
abbrev pub WaitedInTime : ℕ → Result Bool WaitFault → Type 0
WaitedInTime mutex (Ok true) = WaitEnded mutex answer.TimedOut
WaitedInTime mutex (Ok false) = WaitEnded mutex answer.Woken
WaitedInTime mutex (Err fault) = WaitRefused mutex fault

-- a notification took so many
abbrev pub Notified : Bool → ℕ → Type 0
Notified all count = EndedAt notify.Gives notify.notify_told notify.notify_asks notify_seen.Start
    (record { phase = Notifying all }) (notify_act.Done count)

-- a notification of one waiter answered whether it took one
abbrev pub NotifiedOne : Bool → Type 0
NotifiedOne taken = (count : ℕ) × Notified false count × (taken ≡ nat_lt 0 count)
