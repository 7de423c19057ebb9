-- Where a call stands to the sections and lists of the lot, whatever the kind of its lock.
use Rattle.std.specs.Prelude.{ℕ, ◌-◌, ◌^◌, Bool, true, false, if◌then◌else◌, Option, Some, None, is_some}
use Rattle.parking_lot_core_model.specs.declared.parking.ParkToken.{ParkToken}
use Rattle.parking_lot_core_model.specs.declared.parking.UnparkToken.{UnparkToken}
use Rattle.parking_lot_protocol.specs.declared.act.Act.{Act}
use Rattle.parking_lot_protocol.specs.declared.act.Act.TheVariants as act
use Rattle.parking_lot_protocol.specs.declared.act.SectionAct.TheVariants as section
use Rattle.parking_lot_protocol.specs.declared.act.ActResult.TheVariants as seen
use Rattle.parking_lot_protocol.specs.declared.act.CoreAnswer.TheVariants as answer
use Rattle.parking_lot_protocol.specs.declared.act.ActResult.{ActResult}
use Rattle.parking_lot_protocol.specs.declared.mutex_phase.MutexPhase.{MutexPhase}
use Rattle.parking_lot_protocol.specs.declared.mutex_phase.MutexPhase.TheVariants as m
use Rattle.parking_lot_protocol.specs.declared.rw_phase.RwPhase.{RwPhase}
use Rattle.parking_lot_protocol.specs.declared.rw_phase.RwPhase.TheVariants as r
use Rattle.parking_lot_protocol.specs.MutexTable as of_mutex
use Rattle.parking_lot_protocol.specs.RwTable as of_rw
use Rattle.parking_lot_protocol_rw.specs.declared.upgrade_phase.UpgradePhase.{UpgradePhase}
use Rattle.parking_lot_protocol_rw.specs.declared.upgrade_phase.UpgradePhase.TheVariants as u
use Rattle.parking_lot_protocol_rw.specs.UpgradeTable as of_upgrade
use Rattle.parking_lot_machine_calls.specs.declared.late_rw.LateRwPhase.{LateRwPhase}
use Rattle.parking_lot_machine_calls.specs.declared.late_rw.LateRwPhase.TheVariants as late_rw
use Rattle.parking_lot_machine_calls.specs.declared.late_rw.RwSleeper.{RwSleeper}
use Rattle.parking_lot_machine_calls.specs.declared.late_rw.RwSleeper.TheVariants as sleeper
use Rattle.parking_lot_machine_calls.specs.declared.seat.LatePhase.{LatePhase}
use Rattle.parking_lot_machine_calls.specs.declared.seat.LatePhase.TheVariants as late
use Rattle.parking_lot_machine_calls.specs.declared.seat.Core.{Core}
use Rattle.parking_lot_machine_calls.specs.declared.seat.Core.TheVariants as core
use Rattle.parking_lot_rules.specs.Classes.{bit}

-- What a thread does in its section.
pub data Doing : Type 0 where
  -- it looks at the word, to go to sleep, and turns back or joins the list
  Looks : Doing
  TurnsBack : Doing
  Joins : (token : ParkToken) → Doing
  Joined : (token : ParkToken) → Doing
  -- it takes waiters, stores, and leaves with what they are told
  Takes : Doing
  Stores : Doing
  Tells : (token : UnparkToken) → Doing

-- key: 0 for the lock's first, 1 for its second
pub data Stance : Type 0 where
  Out : Stance
  In : (key : ℕ) → (how : Doing) → Stance
  Asleep : (key : ℕ) → (token : ParkToken) → Stance

abbrev pub sign : Bool → UnparkToken
sign true = record { 0 = 1 }
sign false = record { 0 = 0 }

abbrev pub mutex_stance : MutexPhase → Stance
mutex_stance (m.Checks woken) = In 0 Looks
mutex_stance (m.Retreats woken) = In 0 TurnsBack
mutex_stance m.Appends = In 0 (Joins (record { 0 = 0 }))
mutex_stance m.Rests = In 0 (Joined (record { 0 = 0 }))
mutex_stance m.Sleeps = Asleep 0 (record { 0 = 0 })
mutex_stance (m.Takes giving) = In 0 Takes
mutex_stance (m.Stores giving taken left) = In 0 Stores
mutex_stance (m.Leaves giving taken handed) = In 0 (Tells (sign handed))
mutex_stance phase = Out

abbrev pub rw_stance : RwPhase → Stance
rw_stance (r.Checks want woken) = In 0 Looks
rw_stance (r.Retreats want woken) = In 0 TurnsBack
rw_stance (r.Appends want) = In 0 (Joins (record { 0 = of_rw.share_of want }))
rw_stance (r.Rests want) = In 0 (Joined (record { 0 = of_rw.share_of want }))
rw_stance (r.Sleeps want) = Asleep 0 (record { 0 = of_rw.share_of want })
rw_stance (r.DrainChecks d) = In 1 Looks
rw_stance (r.DrainRetreats d) = In 1 TurnsBack
rw_stance (r.DrainAppends rounds) = In 1 (Joins (record { 0 = 8 }))
rw_stance (r.DrainRests rounds) = In 1 (Joined (record { 0 = 8 }))
rw_stance (r.DrainSleeps rounds) = Asleep 1 (record { 0 = 8 })
rw_stance (r.TakeWriter rest) = In 1 Takes
rw_stance (r.ClearWriterParked rest taken) = In 1 Stores
rw_stance (r.LeaveWriterWakeSection rest taken) = In 1 (Tells (sign false))
rw_stance (r.Scans s) = In 0 Takes
rw_stance (r.Stores s left) = In 0 Stores
rw_stance (r.Leaves rest count handed) = In 0 (Tells (sign handed))
rw_stance phase = Out

-- one that asks for the upgradable hold waits with a token of its own
abbrev pub seeks_stance : RwPhase → Stance
seeks_stance (r.Appends want) = In 0 (Joins (record { 0 = 20 }))
seeks_stance (r.Rests want) = In 0 (Joined (record { 0 = 20 }))
seeks_stance (r.Sleeps want) = Asleep 0 (record { 0 = 20 })
seeks_stance phase = rw_stance phase

abbrev pub upgrade_stance : UpgradePhase → Stance
upgrade_stance (u.Plain core) = rw_stance core.phase
upgrade_stance (u.Seeks core) = seeks_stance core.phase
upgrade_stance (u.Drains core) = rw_stance core.phase
upgrade_stance (u.Frees release core) = rw_stance core.phase
upgrade_stance (u.Owes hold answer core) = rw_stance core.phase
upgrade_stance phase = Out

-- one whose moment has passed stands as one that sleeps, until it is back in its section, and then as one that has
-- joined its list, or as one that has nothing to tell where it was taken
abbrev pub late_stance : LatePhase → Stance
late_stance late.Expires = Asleep 0 (record { 0 = 0 })
late_stance late.Quits = In 0 (Joined (record { 0 = 0 }))
late_stance late.Masks = In 0 Stores
late_stance late.Leaves = In 0 (Tells (sign false))
late_stance late.GivesUp = Out
late_stance (late.WasTaken by handed) = In 0 (Tells (sign false))

-- who sleeps at a reader-writer lock
abbrev pub rw_asleep : RwPhase → Bool
rw_asleep (r.Sleeps want) = true
rw_asleep (r.DrainSleeps rounds) = true
rw_asleep phase = false

abbrev pub upgrade_asleep : UpgradePhase → Bool
upgrade_asleep (u.Plain core) = rw_asleep core.phase
upgrade_asleep (u.Seeks core) = rw_asleep core.phase
upgrade_asleep (u.Drains core) = rw_asleep core.phase
upgrade_asleep (u.Frees release core) = rw_asleep core.phase
upgrade_asleep (u.Owes kept answer core) = rw_asleep core.phase
upgrade_asleep phase = false

abbrev pub sleeper_asleep : RwSleeper → Bool
sleeper_asleep (sleeper.Simple c) = rw_asleep c.phase
sleeper_asleep (sleeper.Upgradable c) = upgrade_asleep c.phase

abbrev pub sleeper_stance : RwSleeper → Stance
sleeper_stance (sleeper.Simple c) = rw_stance c.phase
sleeper_stance (sleeper.Upgradable c) = upgrade_stance c.phase

-- Of one that waits until the readers have left, whether it had the upgradable hold before; none of any other.
abbrev pub simple_pending : RwPhase → Option Bool
simple_pending (r.DrainSleeps rounds) = Some false
simple_pending phase = None

abbrev pub upgrade_pending : UpgradePhase → Option Bool
upgrade_pending (u.Drains core) = Some true
upgrade_pending phase = None

abbrev pub pending_from : RwSleeper → Option Bool
pending_from (sleeper.Simple c) = simple_pending c.phase
pending_from (sleeper.Upgradable c) = upgrade_pending c.phase

-- So does one whose moment has passed at a reader-writer lock, as each slept.
abbrev pub lying : Stance → Stance
lying (Asleep key token) = Asleep key token
lying other = Out

abbrev pub back_as : Stance → Stance
back_as (Asleep key token) = In key (Joined token)
back_as other = Out

abbrev pub found_as : Stance → Stance
found_as (Asleep key token) = In key (Tells (sign false))
found_as other = In 0 (Tells (sign false))

abbrev pub late_rw_stance : LateRwPhase → Stance
late_rw_stance (late_rw.Expires k) = lying (sleeper_stance k)
late_rw_stance (late_rw.Quits k) = back_as (sleeper_stance k)
late_rw_stance late_rw.Masks = In 0 Stores
late_rw_stance late_rw.Leaves = In 0 (Tells (sign false))
late_rw_stance late_rw.GivesUp = Out
late_rw_stance (late_rw.LeavesPending from) = In 1 (Tells (sign false))
late_rw_stance (late_rw.WasTaken k by handed) = found_as (sleeper_stance k)

abbrev pub stance : Core → Stance
stance (core.Mutex c) = mutex_stance c.phase
stance (core.Rw c) = rw_stance c.phase
stance (core.Late p) = late_stance p
stance (core.LateRw p) = late_rw_stance p
stance (core.Upgrade c) = upgrade_stance c.phase

-- how many it has taken and not woken yet
abbrev pub mutex_taken : MutexPhase → ℕ
mutex_taken (m.Stores giving taken left) = bit taken
mutex_taken (m.Leaves giving taken handed) = bit taken
mutex_taken (m.Wakes giving) = 1
mutex_taken phase = 0

abbrev pub rw_taken : RwPhase → ℕ
rw_taken (r.ClearWriterParked rest taken) = bit taken
rw_taken (r.LeaveWriterWakeSection rest taken) = bit taken
rw_taken (r.Scans s) = of_rw.count_of s
rw_taken (r.Stores s left) = of_rw.count_of s
rw_taken (r.Leaves rest count handed) = count
rw_taken (r.Wakes rest count) = count
rw_taken phase = 0

abbrev pub upgrade_taken : UpgradePhase → ℕ
upgrade_taken (u.Plain core) = rw_taken core.phase
upgrade_taken (u.Seeks core) = rw_taken core.phase
upgrade_taken (u.Drains core) = rw_taken core.phase
upgrade_taken (u.Frees release core) = rw_taken core.phase
upgrade_taken (u.Owes hold answer core) = rw_taken core.phase
upgrade_taken phase = 0

abbrev pub taken_count : Core → ℕ
taken_count (core.Mutex c) = mutex_taken c.phase
taken_count (core.Rw c) = rw_taken c.phase
taken_count (core.Late p) = 0
taken_count (core.LateRw p) = 0
taken_count (core.Upgrade c) = upgrade_taken c.phase

-- What one asks for whose moment has passed. It comes back into its section, and takes itself out there, by acts of its
-- own.
abbrev pub late_act : LatePhase → Act
late_act late.Expires = act.Sleep
late_act late.Quits = act.Sleep
late_act late.Masks = act.FetchAnd (2 ^ 64 - 3)
late_act late.Leaves = act.Section section.Leave
late_act late.GivesUp = act.Done answer.Refused
late_act (late.WasTaken by handed) = act.Section section.Leave

-- It was woken after all, or is back; it is told whether others are left where it stood; the parked bit is off, and the
-- section left. One that was taken goes on from there as one that was woken. What doesn't fit leads astray.
abbrev pub late_next : LatePhase → ActResult → Core
late_next late.Expires (seen.Woken token) =
    core.Mutex (record { phase = of_mutex.next_phase m.Sleeps (seen.Woken token) })
late_next late.Expires seen.Entered = core.Late late.Quits
late_next late.Quits (seen.Took token left) = core.Late (if left then late.Leaves else late.Masks)
late_next late.Masks (seen.Before word) = core.Late late.Leaves
late_next late.Leaves seen.Made = core.Late late.GivesUp
late_next (late.WasTaken by handed) seen.Made =
    core.Mutex (record { phase = of_mutex.next_phase m.Sleeps (seen.Woken (sign handed)) })
late_next p s = core.Mutex (record { phase = m.Invalid })

-- the same at a reader-writer lock
abbrev pub late_rw_act : LateRwPhase → Act
late_rw_act (late_rw.Expires k) = act.Sleep
late_rw_act (late_rw.Quits k) = act.Sleep
late_rw_act late_rw.Masks = act.FetchAnd (2 ^ 64 - 2)
late_rw_act late_rw.Leaves = act.Section section.Leave
late_rw_act late_rw.GivesUp = act.Done answer.Refused
late_rw_act (late_rw.LeavesPending from) = act.Section section.Leave
late_rw_act (late_rw.WasTaken k by handed) = act.Section section.Leave

-- off its list: one that waited for readers leaves, to take its bit back, and one that wants the lock masks the parked
-- bit as the last one
abbrev pub quits_as : Option Bool → Bool → LateRwPhase
quits_as (Some from) left = late_rw.LeavesPending from
quits_as None left = if left then late_rw.Leaves else late_rw.Masks

abbrev pub sleeper_told : RwSleeper → ActResult → Core
sleeper_told (sleeper.Simple c) seen = core.Rw (record c { phase = of_rw.next_phase c.phase seen })
sleeper_told (sleeper.Upgradable c) seen = core.Upgrade (record c { phase = of_upgrade.next_phase c.phase seen })

-- one that was taken goes on as one that was woken
abbrev pub resumed_as : Bool → RwSleeper → Bool → Core
resumed_as true k handed = sleeper_told k (seen.Woken (sign handed))
resumed_as false k handed = core.Rw (record { phase = r.Invalid })

abbrev pub late_rw_next : LateRwPhase → ActResult → Core
late_rw_next (late_rw.Expires k) (seen.Woken token) = sleeper_told k (seen.Woken token)
late_rw_next (late_rw.Expires k) seen.Entered = core.LateRw (late_rw.Quits k)
late_rw_next (late_rw.Quits k) (seen.Took token left) = core.LateRw (quits_as (pending_from k) left)
late_rw_next late_rw.Masks (seen.Before word) = core.LateRw late_rw.Leaves
late_rw_next late_rw.Leaves seen.Made = core.LateRw late_rw.GivesUp
late_rw_next (late_rw.LeavesPending from) seen.Made = core.Upgrade (record { phase = u.YieldLoads from })
late_rw_next (late_rw.WasTaken k by handed) seen.Made = resumed_as (sleeper_asleep k) k handed
late_rw_next p s = core.Rw (record { phase = r.Invalid })

-- whether it comes back to the lock's second list
abbrev pub late_rw_pending : LateRwPhase → Bool
late_rw_pending (late_rw.Expires k) = is_some (pending_from k)
late_rw_pending (late_rw.Quits k) = is_some (pending_from k)
late_rw_pending p = false

-- what a core asks for, and what follows what it is told
abbrev pub core_act : Core → Act
core_act (core.Mutex c) = of_mutex.act_of c.phase
core_act (core.Rw c) = of_rw.act_of c.phase
core_act (core.Late p) = late_act p
core_act (core.LateRw p) = late_rw_act p
core_act (core.Upgrade c) = of_upgrade.act_of c.phase

abbrev pub core_next : Core → ActResult → Core
core_next (core.Mutex c) seen = core.Mutex (record c { phase = of_mutex.next_phase c.phase seen })
core_next (core.Rw c) seen = core.Rw (record c { phase = of_rw.next_phase c.phase seen })
core_next (core.Late p) seen = late_next p seen
core_next (core.LateRw p) seen = late_rw_next p seen
core_next (core.Upgrade c) seen = core.Upgrade (record c { phase = of_upgrade.next_phase c.phase seen })

-- the token for those whom the section took, once it has stored
abbrev pub upgrade_tells : UpgradePhase → UnparkToken
upgrade_tells (u.Plain core) = of_rw.wakes_with core.phase
upgrade_tells (u.Seeks core) = of_rw.wakes_with core.phase
upgrade_tells (u.Drains core) = of_rw.wakes_with core.phase
upgrade_tells (u.Frees release core) = of_rw.wakes_with core.phase
upgrade_tells (u.Owes hold answer core) = of_rw.wakes_with core.phase
upgrade_tells phase = sign false

abbrev pub core_tells : Core → UnparkToken
core_tells (core.Mutex c) = of_mutex.wakes_with c.phase
core_tells (core.Rw c) = of_rw.wakes_with c.phase
core_tells (core.Late p) = sign false
core_tells (core.LateRw p) = sign false
core_tells (core.Upgrade c) = upgrade_tells c.phase

-- Whether it was told that it begins. A call that is kept was.
abbrev pub mutex_begun : MutexPhase → Bool
mutex_begun m.Locking = false
mutex_begun m.Trying = false
mutex_begun (m.Unlocking fair) = false
mutex_begun m.Bumping = false
mutex_begun phase = true

abbrev pub rw_begun : RwPhase → Bool
rw_begun (r.Locking want) = false
rw_begun (r.Trying want) = false
rw_begun r.UnlockingShared = false
rw_begun (r.UnlockingExclusive fair) = false
rw_begun r.Downgrading = false
rw_begun r.BumpingShared = false
rw_begun r.BumpingExclusive = false
rw_begun phase = true

abbrev pub upgrade_begun : UpgradePhase → Bool
upgrade_begun u.Locking = false
upgrade_begun u.Trying = false
upgrade_begun (u.Unlocking release) = false
upgrade_begun u.Bumping = false
upgrade_begun u.Upgrading = false
upgrade_begun u.TryingToUpgrade = false
upgrade_begun u.DowngradingToShared = false
upgrade_begun u.DowngradingToUpgradable = false
upgrade_begun (u.GivingUp from) = false
upgrade_begun phase = true

abbrev pub has_begun : Core → Bool
has_begun (core.Mutex c) = mutex_begun c.phase
has_begun (core.Rw c) = rw_begun c.phase
has_begun (core.Late p) = true
has_begun (core.LateRw p) = true
has_begun (core.Upgrade c) = upgrade_begun c.phase
