-- Which acts of a call are made at the condition variable, and which elsewhere.
use Rattle.std.specs.Prelude.{ℕ, ◌-◌, ◌&&◌, Bool, true, false, not, Option, Some, None}
use Rattle.parking_lot_protocol_waits.specs.declared.wait_core.WaitPhase.{WaitPhase}
use Rattle.parking_lot_protocol_waits.specs.declared.wait_core.WaitPhase.TheVariants as w
use Rattle.parking_lot_protocol_waits.specs.declared.notify_core.NotifyPhase.{NotifyPhase}
use Rattle.parking_lot_protocol_waits.specs.declared.notify_core.NotifyPhase.TheVariants as n
use Rattle.parking_lot_machine_sides.specs.declared.condvar.open_call.Core.{Core}
use Rattle.parking_lot_machine_sides.specs.declared.condvar.open_call.Core.TheVariants as core
use Rattle.parking_lot_machine_sides.specs.Condvar.Calls.{OpenCall}

-- One that was taken off the list goes on at the mutex's.
abbrev pub wait_is_own : Bool → WaitPhase → Bool
wait_is_own listed (w.Enters k) = true
wait_is_own listed (w.Checks k) = true
wait_is_own listed w.Retreats = true
wait_is_own listed (w.Appends k) = true
wait_is_own listed (w.Shows k) = true
wait_is_own listed (w.Rests k) = true
wait_is_own listed (w.Expires k) = listed
wait_is_own listed (w.Quits k) = listed
wait_is_own listed w.Forgets = true
wait_is_own listed (w.Leaves here) = here
wait_is_own listed (w.Ends answer) = true
wait_is_own listed p = false

abbrev pub notify_is_own : NotifyPhase → Bool
notify_is_own (n.Loads all) = true
notify_is_own (n.Enters all word) = true
notify_is_own (n.Checks all word) = true
notify_is_own (n.Forgets notice) = true
notify_is_own (n.Leaves notice) = true
notify_is_own (n.Ends count) = true
notify_is_own p = false

abbrev pub is_own_by : Bool → Core → Bool
is_own_by listed (core.Wait k) = wait_is_own listed k.phase
is_own_by listed (core.Notify k) = notify_is_own k.phase

-- its next act is one at the variable, of its own thread
abbrev pub is_own : OpenCall → Bool
is_own c = is_own_by c.listed c.core

-- and it enters the variable's section
abbrev pub wait_enters : Bool → WaitPhase → Bool
wait_enters listed (w.Enters k) = true
wait_enters listed (w.Expires k) = listed
wait_enters listed p = false

abbrev pub notify_enters : NotifyPhase → Bool
notify_enters (n.Enters all word) = true
notify_enters p = false

abbrev pub enters_by : Bool → Core → Bool
enters_by listed (core.Wait k) = wait_enters listed k.phase
enters_by listed (core.Notify k) = notify_enters k.phase

abbrev pub enters : OpenCall → Bool
enters c = enters_by c.listed c.core

-- A notification enters the bucket of the mutex too, whose word it has loaded.
abbrev pub notify_enters_beside : NotifyPhase → Option ℕ
notify_enters_beside (n.Enters all word) = Some (word - 1)
notify_enters_beside p = None

abbrev pub enters_beside_by : Core → Option ℕ
enters_beside_by (core.Wait k) = None
enters_beside_by (core.Notify k) = notify_enters_beside k.phase

abbrev pub enters_beside : OpenCall → Option ℕ
enters_beside c = enters_beside_by c.core

-- it is in the section
abbrev pub wait_is_inside : Bool → WaitPhase → Bool
wait_is_inside listed (w.Checks k) = true
wait_is_inside listed w.Retreats = true
wait_is_inside listed (w.Appends k) = true
wait_is_inside listed (w.Shows k) = true
wait_is_inside listed (w.Rests k) = true
wait_is_inside listed (w.Quits k) = listed
wait_is_inside listed w.Forgets = true
wait_is_inside listed (w.Leaves here) = here
wait_is_inside listed p = false

abbrev pub notify_is_inside : NotifyPhase → Bool
notify_is_inside (n.Checks all word) = true
notify_is_inside (n.Marks all) = true
notify_is_inside (n.Moves all locked) = true
notify_is_inside (n.MarksRest notice) = true
notify_is_inside (n.Forgets notice) = true
notify_is_inside (n.Leaves notice) = true
notify_is_inside p = false

abbrev pub is_inside_by : Bool → Core → Bool
is_inside_by listed (core.Wait k) = wait_is_inside listed k.phase
is_inside_by listed (core.Notify k) = notify_is_inside k.phase

abbrev pub is_inside : OpenCall → Bool
is_inside c = is_inside_by c.listed c.core

abbrev pub notify_takes : Bool → NotifyPhase → Bool
notify_takes first (n.Moves true locked) = true
notify_takes first (n.Moves false locked) = first
notify_takes first p = false

abbrev pub takes_by : Bool → Core → Bool
takes_by first (core.Notify k) = notify_takes first k.phase
takes_by first (core.Wait k) = false
