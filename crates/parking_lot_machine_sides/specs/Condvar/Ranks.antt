-- How many steps a call still has before it, of its own and elsewhere.
use Rattle.std.specs.Prelude.{ℕ, ◌+◌, ◌≤◌, true, List, length, Option, Some, None}
use Rattle.std.specs.List.{sum_by}
use Rattle.parking_lot_protocol_waits.specs.declared.wait_core.WaitPhase.{WaitPhase}
use Rattle.parking_lot_protocol_waits.specs.declared.wait_core.WaitPhase.TheVariants as w
use Rattle.parking_lot_protocol_waits.specs.declared.notify_core.NotifyPhase.{NotifyPhase}
use Rattle.parking_lot_protocol_waits.specs.declared.notify_core.NotifyPhase.TheVariants as n
use Rattle.parking_lot_machine_sides.specs.declared.condvar.calls.CondvarCall.{CondvarCall}
use Rattle.parking_lot_machine_sides.specs.declared.condvar.open_call.Core.{Core}
use Rattle.parking_lot_machine_sides.specs.declared.condvar.open_call.Core.TheVariants as core
use Rattle.parking_lot_machine_sides.specs.Condvar.Calls.{OpenCall, call_for}
use Rattle.parking_lot_machine_sides.specs.Condvar.Machines.{State}

abbrev pub wait_steps : WaitPhase → ℕ
wait_steps (w.Enters k) = 13
wait_steps (w.Checks k) = 12
wait_steps (w.Appends k) = 11
wait_steps (w.Shows k) = 10
wait_steps (w.Rests k) = 9
wait_steps (w.Unlocks k) = 8
wait_steps (w.Sleeps k) = 7
wait_steps (w.Expires k) = 6
wait_steps (w.Quits k) = 5
wait_steps w.Forgets = 4
wait_steps w.Masks = 4
wait_steps (w.Leaves here) = 3
wait_steps (w.Resumes token) = 3
wait_steps (w.Locks timed_out) = 2
wait_steps w.Retreats = 2
wait_steps (w.Ends answer) = 1
wait_steps p = 0

-- among so many threads, where it has taken so many
abbrev pub notify_steps : ℕ → ℕ → NotifyPhase → ℕ
notify_steps threads queue (n.Loads all) = 10 + threads
notify_steps threads queue (n.Enters all word) = 9 + threads
notify_steps threads queue (n.Checks all word) = 8 + threads
notify_steps threads queue (n.Marks all) = 7 + threads
notify_steps threads queue (n.Moves all locked) = 6 + queue
notify_steps threads queue (n.MarksRest notice) = 5
notify_steps threads queue (n.Forgets notice) = 4
notify_steps threads queue (n.Leaves notice) = 3
notify_steps threads queue (n.Wakes count) = 2
notify_steps threads queue (n.Ends count) = 1
notify_steps threads queue p = 0

abbrev pub core_steps : ℕ → ℕ → Core → ℕ
core_steps threads queue (core.Wait k) = wait_steps k.phase
core_steps threads queue (core.Notify k) = notify_steps threads queue k.phase

abbrev pub steps_in : ℕ → ℕ → Option OpenCall → ℕ
steps_in threads queue None = 0
steps_in threads queue (Some c) = core_steps threads queue c.core

-- of all threads
abbrev pub left : State → ℕ
left s = sum_by (steps_in (length s.calls) (length s.queue)) s.calls

-- every step is one less
abbrev pub Pays : State → State → Type 0
Pays s u = left u + 1 ≤ left s

-- what a call costs that begins
abbrev pub cost : ℕ → CondvarCall → ℕ
cost threads call = core_steps threads 0 (call_for call).core
