-- What a thread in a call at a condition variable does next: at the variable, at the mutex, or at both.
use Rattle.std.specs.Prelude.{ℕ, Bool, true, false}
use Rattle.parking_lot_core_model.specs.declared.parking.UnparkToken.{UnparkToken}
use Rattle.parking_lot_protocol_waits.specs.declared.wait_core.WaitPhase.{WaitPhase}
use Rattle.parking_lot_protocol_waits.specs.declared.wait_core.WaitPhase.TheVariants as w
use Rattle.parking_lot_protocol_waits.specs.declared.notify_core.NotifyPhase.{NotifyPhase}
use Rattle.parking_lot_protocol_waits.specs.declared.notify_core.NotifyPhase.TheVariants as n
use Rattle.parking_lot_machine_sides.specs.declared.condvar.calls.CondvarCall.{CondvarCall}
use Rattle.parking_lot_machine_sides.specs.declared.condvar.calls.CondvarCall.TheVariants as call
use Rattle.parking_lot_machine_sides.specs.declared.condvar.open_call.Core.{Core}
use Rattle.parking_lot_machine_sides.specs.declared.condvar.open_call.Core.TheVariants as core
use Rattle.parking_lot_machine_sides.specs.declared.condvar.outside.Outside.{Outside}
use Rattle.parking_lot_machine_sides.specs.declared.condvar.outside.Outside.TheVariants as outside
use Rattle.parking_lot_machine_sides.specs.declared.condvar.open_call.OpenCall.{OpenCall}
use Rattle.parking_lot_machine_calls.specs.declared.seat.Core.{Core as RowCore}
use Rattle.parking_lot_machine_calls.specs.declared.seat.Core.TheVariants as row_core
use Rattle.parking_lot_machine_waits.specs.declared.turn.Turn.{Turn}
use Rattle.parking_lot_machine_waits.specs.declared.turn.Turn.TheVariants as turn

-- One that is listed sleeps; one that was taken off the list goes on at its mutex.
abbrev pub sleeps_or : Bool → Turn → Turn
sleeps_or true t = turn.Sleeps
sleeps_or false t = t

abbrev pub acts_or : Bool → Turn → Turn
acts_or true t = turn.Acts
acts_or false t = t

abbrev pub wait_turn : Bool → WaitPhase → Turn
wait_turn listed (w.Rests m) = turn.GivesUp
wait_turn listed (w.Unlocks m) = turn.Unlocks
wait_turn listed (w.Sleeps m) = sleeps_or listed turn.Follows
wait_turn listed (w.Expires m) = acts_or listed turn.ComesBack
wait_turn listed (w.Quits m) = acts_or listed turn.Follows
wait_turn listed (w.Leaves true) = turn.LocksAgain
wait_turn listed (w.Resumes token) = turn.Hears
wait_turn listed (w.Locks timed_out) = turn.Locks
wait_turn listed (w.Enters m) = turn.Acts
wait_turn listed (w.Checks m) = turn.Acts
wait_turn listed w.Retreats = turn.Acts
wait_turn listed (w.Appends m) = turn.Acts
wait_turn listed (w.Shows m) = turn.Acts
wait_turn listed w.Forgets = turn.Acts
wait_turn listed (w.Ends a) = turn.Acts
wait_turn listed p = turn.Sleeps

abbrev pub notify_turn : NotifyPhase → Turn
notify_turn (n.Marks all) = turn.Moves
notify_turn (n.MarksRest notice) = turn.Hears
notify_turn (n.Wakes count) = turn.Hears
notify_turn (n.Loads all) = turn.Acts
notify_turn (n.Enters all word) = turn.Acts
notify_turn (n.Checks all word) = turn.Acts
notify_turn (n.Forgets notice) = turn.Acts
notify_turn (n.Leaves notice) = turn.Acts
notify_turn (n.Ends count) = turn.Acts
notify_turn p = turn.Sleeps

abbrev pub turn_by : Bool → Core → Turn
turn_by listed (core.Wait k) = wait_turn listed k.phase
turn_by listed (core.Notify k) = notify_turn k.phase

abbrev pub turn_of : OpenCall → Turn
turn_of c = turn_by c.listed c.core

-- the mutex that a wait is with
abbrev pub mutex_of : CondvarCall → ℕ
mutex_of (call.Wait m) = m
mutex_of (call.WaitUntil m) = m
mutex_of call.NotifyOne = 0
mutex_of call.NotifyAll = 0

abbrev pub is_wait : CondvarCall → Bool
is_wait (call.Wait m) = true
is_wait (call.WaitUntil m) = true
is_wait call.NotifyOne = false
is_wait call.NotifyAll = false

-- a call at a mutex whose moment has passed
abbrev pub is_late : RowCore → Bool
is_late (row_core.Late p) = true
is_late (row_core.Mutex c) = false
is_late (row_core.Rw c) = false
is_late (row_core.Upgrade c) = false
is_late (row_core.LateRw p) = false

-- it was moved to the list of its mutex, and goes on there
abbrev pub is_at_mutex : RowCore → Bool
is_at_mutex (row_core.Late p) = true
is_at_mutex (row_core.Mutex c) = true
is_at_mutex (row_core.Rw c) = false
is_at_mutex (row_core.Upgrade c) = false
is_at_mutex (row_core.LateRw p) = false

-- What a waiter hears that was taken off the list, once it is awake: where its moment has passed it finds that another
-- had taken it before.
abbrev pub wait_wakes : WaitPhase → UnparkToken → Outside
wait_wakes (w.Quits m) token = outside.WasTaken token
wait_wakes p token = outside.Woken token

abbrev pub wakes_with : Core → UnparkToken → Outside
wakes_with (core.Wait k) token = wait_wakes k.phase token
wakes_with (core.Notify k) token = outside.Woken token

abbrev pub handed : UnparkToken
handed = record { 0 = 1 }

abbrev pub retried : UnparkToken
retried = record { 0 = 0 }
