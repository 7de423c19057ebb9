-- How many steps a thread still makes in its call, and all threads in theirs, where one of them is stepped until it
-- can't move.
use Rattle.std.specs.Prelude.{ℕ, ◌+◌, ◌-◌, ◌*◌, ◌≤◌, ◌==◌, ◌&&◌, not, Bool, false, if◌then◌else◌, length, Option, Some}
use Rattle.std.specs.Prelude.{None, max, slice_set}
use Rattle.std.specs.List.{sum_by}
use Rattle.parking_lot_protocol.specs.declared.mutex_phase.Giving.{Giving}
use Rattle.parking_lot_protocol.specs.declared.mutex_phase.MutexPhase.{MutexPhase}
use Rattle.parking_lot_protocol.specs.declared.mutex_phase.MutexPhase.TheVariants as m
use Rattle.parking_lot_protocol.specs.declared.rw_phase.AfterWake.{AfterWake}
use Rattle.parking_lot_protocol.specs.declared.rw_phase.AfterWake.TheVariants as rest
use Rattle.parking_lot_protocol.specs.declared.rw_phase.RwPhase.{RwPhase}
use Rattle.parking_lot_protocol.specs.declared.rw_phase.RwPhase.TheVariants as r
use Rattle.parking_lot_protocol.specs.declared.rw_phase.LockMode.{LockMode}
use Rattle.parking_lot_protocol.specs.declared.rw_phase.LockMode.TheVariants as want
use Rattle.parking_lot_protocol.specs.RwTable as of_rw
use Rattle.parking_lot_protocol_rw.specs.declared.upgrade_phase.UpgradePhase.{UpgradePhase}
use Rattle.parking_lot_protocol_rw.specs.declared.upgrade_phase.UpgradePhase.TheVariants as u
use Rattle.parking_lot_machine_calls.specs.declared.calls.LockCall.{LockCall}
use Rattle.parking_lot_machine_calls.specs.declared.calls.LockCall.TheVariants as call
use Rattle.parking_lot_machine_calls.specs.declared.seat.LatePhase.{LatePhase}
use Rattle.parking_lot_machine_calls.specs.declared.seat.LatePhase.TheVariants as late
use Rattle.parking_lot_machine_calls.specs.declared.late_rw.LateRwPhase.{LateRwPhase}
use Rattle.parking_lot_machine_calls.specs.declared.late_rw.LateRwPhase.TheVariants as late_rw
use Rattle.parking_lot_machine_calls.specs.declared.late_rw.RwSleeper.{RwSleeper}
use Rattle.parking_lot_machine_calls.specs.declared.late_rw.RwSleeper.TheVariants as sleeper
use Rattle.parking_lot_machine_calls.specs.declared.seat.Core.{Core}
use Rattle.parking_lot_machine_calls.specs.declared.seat.Core.TheVariants as core
use Rattle.parking_lot_machine_calls.specs.declared.open_call.Call.{Call}
use Rattle.parking_lot_machine.specs.Rows.{State, word_at, call_at, entered_by, first_key, second_key}
use Rattle.parking_lot_machine_calls.specs.Stances.{pending_from}
use Rattle.parking_lot_rules.specs.Classes.{bit}

-- Whether another thread is inside a section of the bucket of a lock's first key, and of its second, and shuts one out.
pub record Shut : Type 0 where
  pub first : Bool
  pub second : Bool

-- What counts of the machine for a thread's steps: nothing, where another thread is stepped, and all that it has seen
-- may be out of date; else the word of its lock, how many wait in the first list, and whether it is shut out of the
-- lock's sections.
pub data View : Type 0 where
  Unseen : View
  Sees : (word first : ℕ) → (shut : Shut) → View

-- the word is surely that one
abbrev pub is_at : View → ℕ → Bool
is_at Unseen n = false
is_at (Sees word first shut) n = word == n

-- it surely can enter a section of the first key, and of the second
abbrev pub is_open : View → Bool
is_open Unseen = false
is_open (Sees word first shut) = not shut.first

abbrev pub is_open2 : View → Bool
is_open2 Unseen = false
is_open2 (Sees word first shut) = not shut.second

-- how many it may find in the first list, among n threads
abbrev pub may_find : ℕ → View → ℕ
may_find n Unseen = n
may_find n (Sees word first shut) = if shut.first then n else first

-- a wake, and all steps of the one that is woken
abbrev pub wake : ℕ
wake = 109

-- MUTEXES

-- One that may spin for so many rounds looks at the word after each. Then it parks: it sets the parked bit, enters,
-- checks, joins the list and leaves. It leaves in vain, and asks again from the beginning, only where the word has
-- changed meanwhile.
abbrev pub mutex_parks : View → ℕ
mutex_parks v = if is_open v then 4 else 29

abbrev pub mutex_asks : View → ℕ → ℕ
mutex_asks v rounds = 2 * rounds + 1 + mutex_parks v

-- what comes after a release: its answer, or a bump that asks again
abbrev pub mutex_ends : View → Giving → ℕ
mutex_ends v g = if g.again then 2 + mutex_asks v 10 else 1

abbrev pub mutex_steps : View → MutexPhase → ℕ
mutex_steps v (m.Loads a) = 1 + mutex_asks v a.rounds
mutex_steps v (m.Locks a waiters) = if is_at v (2 * bit waiters) then 2 else 1 + mutex_asks v a.rounds
mutex_steps v (m.Spins a) = 2 + mutex_asks v (a.rounds - 1)
mutex_steps v (m.Parks a) = if is_at v 1 then 1 + mutex_parks v else 1 + mutex_asks v a.rounds
mutex_steps v (m.Enters woken) = if is_at v 3 then mutex_parks v else 29
mutex_steps v (m.Checks woken) = if is_at v 3 then 3 else 28
mutex_steps v (m.Retreats woken) = 27
mutex_steps v m.Appends = 2
mutex_steps v m.Rests = 1
mutex_steps v m.Sleeps = 0
mutex_steps v m.TryLoads = 3
mutex_steps v (m.TryLocks waiters left) = if is_at v (2 * bit waiters) then 2 else 3
mutex_steps v m.BumpLoads = wake + 8 + mutex_asks v 10
mutex_steps v m.Relocks = 1 + mutex_asks v 10
mutex_steps v (m.Unlocks g) = wake + 5 + mutex_ends v g
mutex_steps v (m.Looks g) = wake + 4 + mutex_ends v g
mutex_steps v (m.Takes g) = wake + 3 + mutex_ends v g
mutex_steps v (m.Stores g taken left) = wake * bit taken + 2 + mutex_ends v g
mutex_steps v (m.Leaves g taken handed) = wake * bit taken + 1 + mutex_ends v g
mutex_steps v (m.Wakes g) = wake + mutex_ends v g
mutex_steps v (m.Finishes g) = mutex_ends v g
mutex_steps v phase = 1

-- READER-WRITER LOCKS

-- A pending writer waits for the readers in the second list, as others wait in the first. The rounds that it has left
-- it keeps for when it is woken.
abbrev pub drain_parks : View → ℕ
drain_parks v = if is_open2 v then 4 else 9

abbrev pub drains : View → ℕ → ℕ
drains v rounds = 2 * rounds + 1 + drain_parks v

-- what comes after the first admission
abbrev pub comes_after : View → LockMode → ℕ
comes_after v (want.Shared recursive) = 1
comes_after v want.Exclusive = 1 + drains v 10

-- the most that parking takes, where it is in vain
abbrev pub vain : LockMode → ℕ
vain (want.Shared recursive) = 30
vain want.Exclusive = 56

abbrev pub rw_parks : View → LockMode → ℕ
rw_parks v want = if is_open v then 4 else vain want

-- it either parks, or is admitted
abbrev pub rw_asks : View → LockMode → ℕ → ℕ
rw_asks v want rounds = 2 * rounds + 1 + max (rw_parks v want) (comes_after v want)

abbrev pub rw_ends : View → AfterWake → ℕ
rw_ends v rest.FreedShared = 1
rw_ends v rest.FreedExclusive = 1
rw_ends v rest.Downgraded = 1
rw_ends v rest.AgainShared = 2 + rw_asks v (want.Shared false) 10
rw_ends v rest.AgainExclusive = 2 + rw_asks v want.Exclusive 10

-- one that goes through the list finds so many, and takes each by one step
abbrev pub scan : ℕ → View → ℕ
scan n v = (wake + 1) * may_find n v

-- the word surely keeps out one that asks, and says that somebody waits
abbrev pub keeps_out : View → LockMode → Bool
keeps_out Unseen want = false
keeps_out (Sees word first shut) want = of_rw.is_barred want word && of_rw.is_parked word

abbrev pub keeps_waiting : View → Bool
keeps_waiting Unseen = false
keeps_waiting (Sees word first shut) = of_rw.has_readers word && of_rw.is_writer_parked word

-- One that is before a section of the second key may be kept there, while it could enter one of the first: so what
-- comes behind is counted as if nothing were known.
abbrev pub rw_steps : ℕ → View → RwPhase → ℕ
rw_steps n v (r.Loads a) = 1 + rw_asks v a.want a.rounds
rw_steps n v (r.Admits a word) = if is_at v word then 1 + comes_after v a.want else 1 + rw_asks v a.want a.rounds
rw_steps n v (r.Spins a) = 2 + rw_asks v a.want (a.rounds - 1)
rw_steps n v (r.SetParked a word) = if is_at v word then 1 + rw_parks v a.want else 1 + rw_asks v a.want a.rounds
rw_steps n v (r.Enters want woken) = if keeps_out v want then rw_parks v want else vain want
rw_steps n v (r.Checks want woken) = if keeps_out v want then 3 else vain want - 1
rw_steps n v (r.Retreats want woken) = vain want - 2
rw_steps n v (r.Appends want) = 2
rw_steps n v (r.Rests want) = 1
rw_steps n v (r.Sleeps want) = 0
rw_steps n v (r.DrainLoads d) = 1 + drains v d.rounds
rw_steps n v (r.DrainSpins d) = 2 + drains v (d.rounds - 1)
rw_steps n v (r.DrainSetParked d word) = if is_at v word then 1 + drain_parks v + 2 * d.rounds else 1 + drains v
    d.rounds
rw_steps n v (r.DrainEnters d) = if keeps_waiting v then drain_parks v + 2 * d.rounds else 9 + 2 * d.rounds
rw_steps n v (r.DrainChecks d) = if keeps_waiting v then 3 + 2 * d.rounds else 8 + 2 * d.rounds
rw_steps n v (r.DrainRetreats d) = 7 + 2 * d.rounds
rw_steps n v (r.DrainAppends rounds) = 2 + 2 * rounds
rw_steps n v (r.DrainRests rounds) = 1 + 2 * rounds
rw_steps n v (r.DrainSleeps rounds) = 2 * rounds
rw_steps n v (r.TryLoads want) = 3
rw_steps n v (r.TryAdmits want word left) = if is_at v word then 2 else 3
rw_steps n v (r.BumpLoads want) = scan n v + wake + 9 + rw_asks Unseen want 10
rw_steps n v (r.Relocks want) = 1 + rw_asks v want 10
rw_steps n v (r.Unshares rest) = wake + 6 + rw_ends Unseen rest
rw_steps n v (r.EnterWriterWakeSection rest) = wake + 5 + rw_ends Unseen rest
rw_steps n v (r.TakeWriter rest) = wake + 4 + rw_ends v rest
rw_steps n v (r.ClearWriterParked rest taken) = wake * bit taken + 3 + rw_ends v rest
rw_steps n v (r.LeaveWriterWakeSection rest taken) = wake * bit taken + 2 + rw_ends v rest
rw_steps n v (r.Unlocks fair rest) = scan n v + 6 + rw_ends v rest
rw_steps n v (r.LooksExclusive fair rest) = scan n v + 5 + rw_ends v rest
rw_steps n v r.Downgrades = scan n v + 7
rw_steps n v r.EnterWakeSection = scan n v + 6
rw_steps n v (r.Scans s) = scan n v + wake * of_rw.count_of s + 4 + rw_ends v s.rest
rw_steps n v (r.Stores s left) = wake * of_rw.count_of s + 3 + rw_ends v s.rest
rw_steps n v (r.Leaves rest count handed) = wake * count + 2 + rw_ends v rest
rw_steps n v (r.Wakes rest count) = wake * count + 1 + rw_ends v rest
rw_steps n v (r.Finishes rest) = rw_ends v rest
rw_steps n v phase = 1

-- CALLS OF UPGRADABLE HOLDS

-- A release that finds others waiting goes through their list; so does one that keeps a hold and owes them a look.
abbrev pub upgrade_steps : ℕ → View → UpgradePhase → ℕ
upgrade_steps n v (u.Plain core) = rw_steps n v core.phase
upgrade_steps n v (u.Seeks core) = rw_steps n v core.phase
upgrade_steps n v (u.Drains core) = rw_steps n v core.phase
upgrade_steps n v (u.Frees release core) = rw_steps n v core.phase
upgrade_steps n v (u.Owes hold answer core) = rw_steps n v core.phase
upgrade_steps n v u.TryLoads = 3
upgrade_steps n v (u.TryAdmits word left) = if is_at v word then 2 else 3
upgrade_steps n v u.Upgrades = 2 + drains v 10
upgrade_steps n v u.TryUpgradeLoads = 3
upgrade_steps n v (u.TryUpgrades word left) = if is_at v word then 2 else 3
upgrade_steps n v (u.UnlockLoads release) = scan n v + 8
upgrade_steps n v (u.Unlocks release word) = if is_at v word then 2 else scan n v + 8
upgrade_steps n v u.ToShared = scan n v + 7
upgrade_steps n v u.ToUpgradable = scan n v + 7
upgrade_steps n v (u.YieldLoads from) = scan n v + 9
upgrade_steps n v (u.Yields from word) = if is_at v word then scan n v + 7 else scan n v + 8
upgrade_steps n v phase = 1

-- ONE WHOSE MOMENT HAS PASSED

-- it comes back, takes itself out, masks the parked bit off, leaves, and is answered; or it was taken, leaves, and asks
-- again from the beginning
abbrev pub late_steps : LatePhase → ℕ
late_steps late.Expires = 53
late_steps late.Quits = 4
late_steps late.Masks = 3
late_steps late.Leaves = 2
late_steps late.GivesUp = 1
late_steps (late.WasTaken by handed) = 52

-- At a reader-writer lock so too, but that a pending writer looks at the word after it has left, takes its bit back by
-- an exchange that may be lost once, and goes through the list of those that it kept out. Where it was taken it goes on
-- as it slept.
abbrev pub sleeper_steps : ℕ → View → RwSleeper → ℕ
sleeper_steps n v (sleeper.Simple c) = rw_steps n v c.phase
sleeper_steps n v (sleeper.Upgradable c) = upgrade_steps n v c.phase

abbrev pub quits_steps : ℕ → Option Bool → ℕ
quits_steps n None = 4
quits_steps n (Some from) = (wake + 1) * n + 11

abbrev pub late_rw_steps : ℕ → View → LateRwPhase → ℕ
late_rw_steps n v (late_rw.Expires k) = sleeper_steps n v k + wake + quits_steps n (pending_from k) + 1
late_rw_steps n v (late_rw.Quits k) = quits_steps n (pending_from k)
late_rw_steps n v late_rw.Masks = 3
late_rw_steps n v late_rw.Leaves = 2
late_rw_steps n v late_rw.GivesUp = 1
late_rw_steps n v (late_rw.LeavesPending from) = (wake + 1) * n + 10
late_rw_steps n v (late_rw.WasTaken k by handed) = sleeper_steps n v k + wake

-- what a deadline adds, by who sleeps
abbrev pub late_cost : ℕ → Core → ℕ
late_cost n (core.Rw c) = wake + quits_steps n (pending_from (sleeper.Simple c)) + 1
late_cost n (core.Upgrade c) = wake + quits_steps n (pending_from (sleeper.Upgradable c)) + 1
late_cost n k = 53

-- ALL THREADS

abbrev pub core_steps : ℕ → View → Core → ℕ
core_steps n v (core.Mutex c) = mutex_steps v c.phase
core_steps n v (core.Rw c) = rw_steps n v c.phase
core_steps n v (core.Late p) = late_steps p
core_steps n v (core.LateRw p) = late_rw_steps n v p
core_steps n v (core.Upgrade c) = upgrade_steps n v c.phase

-- the steps of a call whose thread isn't the one that is stepped
abbrev pub far_steps : ℕ → Option Call → ℕ
far_steps n None = 0
far_steps n (Some c) = core_steps n Unseen c.core

-- whether a thread finds another inside a bucket
abbrev pub is_shut_to : ℕ → Option ℕ → Bool
is_shut_to t None = false
is_shut_to t (Some u) = not (u == t)

abbrev pub shut_of : State → ℕ → Call → Shut
shut_of s t c = record {
  first = is_shut_to t (entered_by s (first_key c.lock));
  second = is_shut_to t (entered_by s (second_key c.lock));
}

abbrev pub view_of : State → ℕ → Call → View
view_of s t c = Sees (word_at s c.lock) (length (s.lot.queues (first_key c.lock))) (shut_of s t c)

abbrev pub own_steps : State → ℕ → Option Call → ℕ
own_steps s t None = 0
own_steps s t (Some c) = core_steps (length s.calls) (view_of s t c) c.core

-- The steps of all threads, where thread t is stepped: its own, and those of the others.
abbrev pub steps_left : State → ℕ → ℕ
steps_left s t = own_steps s t (call_at s t) + sum_by (far_steps (length s.calls)) (slice_set s.calls t None)

-- Its step is paid for, and with it all that it makes others do.
abbrev pub Pays : ℕ → State → State → Type 0
Pays t s u = steps_left u t + 1 ≤ steps_left s t

-- what a call costs that begins, among n threads
abbrev pub cost : ℕ → LockCall → ℕ
cost n call.Lock = 51
cost n call.TryLock = 3
cost n call.LockUntil = 51
cost n call.Unlock = 115
cost n call.Read = 53
cost n call.TryRead = 3
cost n call.UnlockRead = 116
cost n call.Write = 108
cost n call.TryWrite = 3
cost n call.UnlockWrite = 110 * n + 7
cost n call.Downgrade = 110 * n + 7
cost n call.UpgradableRead = 108
cost n call.TryUpgradableRead = 3
cost n call.UnlockUpgradable = 110 * n + 8
cost n call.Upgrade = 32
cost n call.TryUpgrade = 3
cost n call.DowngradeToUpgradable = 110 * n + 7
cost n call.DowngradeUpgradable = 110 * n + 7
cost n call.ReadUntil = 53
cost n call.WriteUntil = 108
cost n call.UpgradableUntil = 108
cost n call.UpgradeUntil = 32

abbrev pub Costs : ℕ → LockCall → State → State → Type 0
Costs t call s u = steps_left u t ≤ steps_left s t + cost (length s.calls) call

-- Where it can't move, any other may be stepped from there on.
abbrev pub AnyMayBeStepped : State → ℕ → Type 0
AnyMayBeStepped s t = (u : ℕ) → steps_left s u ≤ steps_left s t
