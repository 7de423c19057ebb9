-- What calls at a condition variable want, and what they are answered.
use Rattle.std.specs.Prelude.{ℕ, ◌+◌, nat_lt, Bool, true, false, if◌then◌else◌, Option, Some, None}
use Rattle.parking_lot_protocol_waits.specs.declared.wait_act.WaitAnswer.{WaitAnswer}
use Rattle.parking_lot_protocol_waits.specs.declared.wait_act.WaitAnswer.TheVariants as answer
use Rattle.parking_lot_protocol_waits.specs.declared.wait_act.WaitSeen.TheVariants as wait_seen
use Rattle.parking_lot_protocol_waits.specs.declared.wait_core.WaitPhase.{WaitPhase}
use Rattle.parking_lot_protocol_waits.specs.declared.wait_core.WaitPhase.TheVariants as w
use Rattle.parking_lot_protocol_waits.specs.declared.notify_act.NotifySeen.TheVariants as notify_seen
use Rattle.parking_lot_protocol_waits.specs.declared.notify_core.NotifyPhase.{NotifyPhase}
use Rattle.parking_lot_protocol_waits.specs.declared.notify_core.NotifyPhase.TheVariants as n
use Rattle.parking_lot_protocol_waits.specs.WaitTable.{wait_told}
use Rattle.parking_lot_protocol_waits.specs.NotifyTable.{notify_told}
use Rattle.parking_lot_machine_sides.specs.declared.condvar.calls.CondvarCall.{CondvarCall}
use Rattle.parking_lot_machine_sides.specs.declared.condvar.calls.CondvarCall.TheVariants.{Wait, WaitUntil, NotifyOne}
use Rattle.parking_lot_machine_sides.specs.declared.condvar.calls.CondvarCall.TheVariants.{NotifyAll}
use Rattle.parking_lot_machine_sides.specs.declared.condvar.calls.CondvarReply.{CondvarReply}
use Rattle.parking_lot_machine_sides.specs.declared.condvar.calls.CondvarReply.TheVariants as reply
use Rattle.parking_lot_machine_sides.specs.declared.condvar.open_call.Core.{Core}
use Rattle.parking_lot_machine_sides.specs.declared.condvar.open_call.Core.TheVariants as core
pub use Rattle.parking_lot_machine_sides.specs.declared.condvar.open_call.OpenCall.{OpenCall}

abbrev pub is_timed : CondvarCall → Bool
is_timed (WaitUntil mutex) = true
is_timed call = false

abbrev pub is_of_all : CondvarCall → Bool
is_of_all NotifyAll = true
is_of_all call = false

-- its core, before it begins
abbrev pub asking : CondvarCall → Core
asking (Wait mutex) = core.Wait (record { phase = w.Waiting mutex })
asking (WaitUntil mutex) = core.Wait (record { phase = w.Waiting mutex })
asking NotifyOne = core.Notify (record { phase = n.Notifying false })
asking NotifyAll = core.Notify (record { phase = n.Notifying true })

abbrev pub started : Core → Core
started (core.Wait k) = core.Wait (wait_told k wait_seen.Start)
started (core.Notify k) = core.Notify (notify_told k notify_seen.Start)

-- the call as it begins
abbrev pub call_for : CondvarCall → OpenCall
call_for call = record { call = call; core = started (asking call); listed = true; taken = 0 }

-- the call of a waiter once it is taken off the list, and of a notification once it has taken one more
abbrev pub off_list : OpenCall → OpenCall
off_list c = record c { listed = false }

abbrev pub took_one : OpenCall → OpenCall
took_one c = record c { taken = c.taken + 1 }

-- WHAT A CALL IS ANSWERED

-- a mutex of another lot is another mutex
abbrev pub wait_reply : WaitAnswer → CondvarReply
wait_reply answer.Woken = reply.Woken
wait_reply answer.TimedOut = reply.TimedOut
wait_reply answer.WrongMutex = reply.WrongMutex
wait_reply answer.WrongLot = reply.WrongMutex

abbrev pub notify_reply : Bool → ℕ → CondvarReply
notify_reply true count = reply.Count count
notify_reply false count = reply.Flag (nat_lt 0 count)

abbrev pub reply_in_wait : WaitPhase → Option CondvarReply
reply_in_wait (w.Ends a) = Some (wait_reply a)
reply_in_wait p = None

abbrev pub reply_in_notify : Bool → NotifyPhase → Option CondvarReply
reply_in_notify all (n.Ends count) = Some (notify_reply all count)
reply_in_notify all p = None

abbrev pub reply_by : CondvarCall → Core → Option CondvarReply
reply_by call (core.Wait k) = reply_in_wait k.phase
reply_by call (core.Notify k) = reply_in_notify (is_of_all call) k.phase

abbrev pub reply_of : OpenCall → Option CondvarReply
reply_of c = reply_by c.call c.core
