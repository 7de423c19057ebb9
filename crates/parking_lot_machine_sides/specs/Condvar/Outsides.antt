-- What a call is told of acts that are made elsewhere, and which steps of the rules that is.
use Rattle.std.specs.Prelude.{ℕ, ◌-◌, ◌==◌, ◌&&◌, ◌||◌, nat_lt, if◌then◌else◌, Bool, true, false, not, List, [], ◌∷◌}
use Rattle.std.specs.Prelude.{Option, Some, slice_set}
use Rattle.std.specs.Option.{option_map_or}
use Rattle.parking_lot_rules.specs.Variable as rules
use Rattle.parking_lot_protocol_waits.specs.declared.wait_act.WaitSeen.{WaitSeen}
use Rattle.parking_lot_protocol_waits.specs.declared.wait_act.WaitSeen.TheVariants as wait_seen
use Rattle.parking_lot_protocol_waits.specs.declared.wait_core.WaitPhase.{WaitPhase}
use Rattle.parking_lot_protocol_waits.specs.declared.wait_core.WaitPhase.TheVariants as w
use Rattle.parking_lot_protocol_waits.specs.declared.notify_act.NotifySeen.{NotifySeen}
use Rattle.parking_lot_protocol_waits.specs.declared.notify_act.NotifySeen.TheVariants as notify_seen
use Rattle.parking_lot_protocol_waits.specs.declared.notify_core.NotifyPhase.{NotifyPhase}
use Rattle.parking_lot_protocol_waits.specs.declared.notify_core.NotifyPhase.TheVariants as n
use Rattle.parking_lot_protocol_waits.specs.WaitTable.{wait_told}
use Rattle.parking_lot_protocol_waits.specs.NotifyTable.{notify_told}
use Rattle.parking_lot_machine_sides.specs.declared.condvar.open_call.Core.{Core}
use Rattle.parking_lot_machine_sides.specs.declared.condvar.open_call.Core.TheVariants as core
use Rattle.parking_lot_machine_sides.specs.declared.condvar.outside.Outside.{Outside}
use Rattle.parking_lot_machine_sides.specs.declared.condvar.outside.Outside.TheVariants as outside
use Rattle.parking_lot_machine_sides.specs.Condvar.Calls.{OpenCall, is_timed}
use Rattle.parking_lot_machine_sides.specs.Condvar.Machines.{State, call_at, is_left}
use Rattle.parking_lot_machine_sides.specs.Condvar.OwnSteps.{closing}

-- One in the list is told of its deadline alone. One off it goes on at the mutex.
abbrev pub wait_fits : Bool → Bool → WaitPhase → Outside → Bool
wait_fits timed listed (w.Unlocks k) outside.Made = true
wait_fits timed listed (w.Locks timed_out) outside.Made = true
wait_fits timed listed (w.Sleeps k) (outside.Woken token) = not listed
wait_fits timed listed (w.Sleeps k) outside.Expired = timed
wait_fits timed listed (w.Expires k) outside.Made = not listed
wait_fits timed listed (w.Quits k) (outside.Quit last) = not listed
wait_fits timed listed (w.Quits k) (outside.WasTaken token) = not listed
wait_fits timed listed w.Masks outside.Made = true
wait_fits timed listed (w.Leaves here) outside.Made = not here
wait_fits timed listed (w.Resumes token) outside.Made = true
wait_fits timed listed p seen = false

-- A notification of all takes all, and one of one the first, if there is one. Of a mutex that isn't locked the first is
-- woken, and nobody else.
abbrev pub is_whole : Bool → ℕ → Bool → Bool
is_whole true taken left = not left
is_whole false taken left = nat_lt taken 2 && not (left && (taken == 0))

abbrev pub woken_of : Bool → ℕ → ℕ
woken_of locked taken = (if locked || (taken == 0) then 0 else 1)

abbrev pub all_taken : ℕ → Bool → Bool → Bool → ℕ → ℕ → Bool
all_taken taken left all locked unparked requeued = is_whole all taken left
    && ((unparked == woken_of locked taken) && (requeued == taken - woken_of locked taken))

abbrev pub notify_fits : ℕ → Bool → NotifyPhase → Outside → Bool
notify_fits taken left (n.Marks all) (outside.Marked locked) = true
notify_fits taken left (n.Moves all locked) (outside.Moved unparked requeued) = all_taken taken left all locked unparked
    requeued
notify_fits taken left (n.MarksRest notice) outside.Made = true
notify_fits taken left (n.Wakes count) outside.Made = true
notify_fits taken left p seen = false

abbrev pub hears_by : OpenCall → Bool → Outside → Core → Bool
hears_by c left seen (core.Wait k) = wait_fits (is_timed c.call) c.listed k.phase seen
hears_by c left seen (core.Notify k) = notify_fits c.taken left k.phase seen

-- whether a call may be told so now
abbrev pub may_hear : List ℕ → Outside → OpenCall → Bool
may_hear queue seen c = hears_by c (is_left queue) seen c.core

abbrev pub can_be_told : State → ℕ → Outside → Bool
can_be_told s t seen = option_map_or (may_hear s.queue seen) (call_at s t) false

-- WHAT IT LEAVES

abbrev pub wait_hears : Outside → WaitSeen
wait_hears outside.Made = wait_seen.Made
wait_hears (outside.Woken token) = wait_seen.Woken token
wait_hears outside.Expired = wait_seen.Expired
wait_hears (outside.Quit last) = wait_seen.Quit false last
wait_hears (outside.WasTaken token) = wait_seen.WasTaken token
wait_hears (outside.Marked locked) = wait_seen.Made
wait_hears (outside.Moved unparked requeued) = wait_seen.Made

abbrev pub notify_hears : Bool → Outside → NotifySeen
notify_hears left (outside.Marked locked) = notify_seen.Marked locked
notify_hears left (outside.Moved unparked requeued) = notify_seen.Moved unparked requeued left
notify_hears left seen = notify_seen.Made

abbrev pub told_by : OpenCall → Bool → Outside → Core → OpenCall
told_by c left seen (core.Wait k) = record c { core = core.Wait (wait_told k (wait_hears seen)) }
told_by c left seen (core.Notify k) = record c { core = core.Notify (notify_told k (notify_hears left seen)) }

abbrev pub told : OpenCall → List ℕ → Outside → OpenCall
told c queue seen = told_by c (is_left queue) seen c.core

-- The machine after that, whole: the thread's call alone has changed.
abbrev pub heard : State → ℕ → OpenCall → Outside → State
heard s t c seen = record s { calls = slice_set s.calls t (Some (told c s.queue seen)) }

-- WHICH STEPS OF THE RULES IT IS

abbrev pub expires_at : ℕ → Bool → List rules.Step
expires_at k true = rules.Alone (rules.Expire k) ∷ []
expires_at k false = []

abbrev pub wait_expires : Bool → WaitPhase → Outside → List rules.Step
wait_expires listed (w.Sleeps k) outside.Expired = expires_at k listed
wait_expires listed p seen = []

-- a notification that leaves others waiting has nothing more to do in the section
abbrev pub closes : Bool → List rules.Step
closes true = closing rules.Notifies true ∷ []
closes false = []

abbrev pub notify_closes : Bool → NotifyPhase → Outside → List rules.Step
notify_closes left (n.Moves all locked) (outside.Moved unparked requeued) =
    closes (left && not (not locked && nat_lt 0 requeued))
notify_closes left (n.MarksRest notice) seen = closes notice.left
notify_closes left p seen = []

abbrev pub tells_by : OpenCall → List ℕ → Outside → Core → List rules.Step
tells_by c queue seen (core.Wait k) = wait_expires c.listed k.phase seen
tells_by c queue seen (core.Notify k) = notify_closes (is_left queue) k.phase seen

abbrev pub tells : OpenCall → List ℕ → Outside → List rules.Step
tells c queue seen = tells_by c queue seen c.core
