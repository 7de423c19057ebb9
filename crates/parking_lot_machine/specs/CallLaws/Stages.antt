-- Where a call at a lock stands on its way to an answer.
use Rattle.std.specs.Prelude.{◌≡◌, ◌⊎◌, ℕ, ◌+◌, Bool, true, false, if◌then◌else◌}
use Rattle.parking_lot_protocol.specs.RwTable.{answer_of}
use Rattle.parking_lot_protocol.specs.declared.act.CoreAnswer.{CoreAnswer}
use Rattle.parking_lot_protocol.specs.declared.act.CoreAnswer.TheVariants.{Owned, Refused, Released}
use Rattle.parking_lot_protocol.specs.declared.mutex_phase.Giving.{Giving}
use Rattle.parking_lot_protocol.specs.declared.mutex_phase.MutexPhase.{MutexPhase}
use Rattle.parking_lot_protocol.specs.declared.mutex_phase.MutexPhase.TheVariants as mx
use Rattle.parking_lot_protocol.specs.declared.rw_phase.AfterWake.{AfterWake}
use Rattle.parking_lot_protocol.specs.declared.rw_phase.AfterWake.TheVariants as rest
use Rattle.parking_lot_protocol.specs.declared.rw_phase.LockMode.{LockMode}
use Rattle.parking_lot_protocol.specs.declared.rw_phase.LockMode.TheVariants as want
use Rattle.parking_lot_protocol.specs.declared.rw_phase.RwPhase.{RwPhase}
use Rattle.parking_lot_protocol.specs.declared.rw_phase.RwPhase.TheVariants as r
use Rattle.parking_lot_protocol_rw.specs.declared.upgrade_phase.UpgradePhase.{UpgradePhase}
use Rattle.parking_lot_protocol_rw.specs.declared.upgrade_phase.UpgradePhase.TheVariants as u
use Rattle.parking_lot_machine_calls.specs.CallActs.{kept_hold, mutex_hold_after, outcome_hold}
use Rattle.parking_lot_machine_calls.specs.declared.calls.LockCall.{LockCall}
use Rattle.parking_lot_machine_calls.specs.declared.calls.LockCall.TheVariants as call
use Rattle.parking_lot_machine_calls.specs.declared.calls.OwnMode.{OwnMode}
use Rattle.parking_lot_machine_calls.specs.declared.calls.OwnMode.TheVariants.{Shared, Upgradable, Pending, Exclusive}
use Rattle.parking_lot_machine_calls.specs.declared.late_rw.LateRwPhase.{LateRwPhase}
use Rattle.parking_lot_machine_calls.specs.declared.late_rw.LateRwPhase.TheVariants as late_rw
use Rattle.parking_lot_machine_calls.specs.declared.late_rw.RwSleeper.{RwSleeper}
use Rattle.parking_lot_machine_calls.specs.declared.late_rw.RwSleeper.TheVariants as sleeper
use Rattle.parking_lot_machine_calls.specs.declared.open_call.Call.{Call}
use Rattle.parking_lot_machine_calls.specs.declared.seat.Core.{Core}
use Rattle.parking_lot_machine_calls.specs.declared.seat.Core.TheVariants as core
use Rattle.parking_lot_machine_calls.specs.declared.seat.Hold.{Hold}
use Rattle.parking_lot_machine_calls.specs.declared.seat.Hold.TheVariants as hold
use Rattle.parking_lot_machine_calls.specs.declared.seat.LatePhase.{LatePhase}
use Rattle.parking_lot_machine_calls.specs.declared.seat.LatePhase.TheVariants as late

pub data Stage : Type 0 where
  -- it asks until its thread owns the lock so; from: its thread has the upgradable hold meanwhile
  Asks : (mode : OwnMode) (from : Bool) → Stage
  -- it asks, and may be refused
  Tries : (mode : OwnMode) (from : Bool) → Stage
  -- its deadline has come as it slept: it will be refused, unless it was woken before
  Quits : (mode : OwnMode) (from : Bool) → Stage
  -- it gives up its thread's hold: all that it has of the lock, or one of its shared holds
  Frees : (all : Bool) → Stage
  -- it turns the hold into another
  Turns : (mode : OwnMode) → Stage
  -- it is known what it will be answered, and how its thread owns the lock then
  Over : (answer : CoreAnswer) (hold : Hold) → Stage

-- where a call begins
abbrev pub stage_of : LockCall → Stage
stage_of call.Lock = Asks Exclusive false
stage_of call.TryLock = Tries Exclusive false
stage_of call.LockUntil = Asks Exclusive false
stage_of call.Unlock = Frees true
stage_of call.Read = Asks Shared false
stage_of call.TryRead = Tries Shared false
stage_of call.UnlockRead = Frees false
stage_of call.Write = Asks Exclusive false
stage_of call.TryWrite = Tries Exclusive false
stage_of call.UnlockWrite = Frees true
stage_of call.Downgrade = Turns Shared
stage_of call.UpgradableRead = Asks Upgradable false
stage_of call.TryUpgradableRead = Tries Upgradable false
stage_of call.UnlockUpgradable = Frees true
stage_of call.Upgrade = Asks Exclusive true
stage_of call.TryUpgrade = Tries Exclusive true
stage_of call.DowngradeToUpgradable = Turns Upgradable
stage_of call.DowngradeUpgradable = Turns Shared
stage_of call.ReadUntil = Asks Shared false
stage_of call.WriteUntil = Asks Exclusive false
stage_of call.UpgradableUntil = Asks Upgradable false
stage_of call.UpgradeUntil = Asks Exclusive true

-- HOLDS, OF A THREAD WITH n SHARED HOLDS BESIDE

-- with the hold that it asked for
abbrev pub gained : ℕ → OwnMode → Hold
gained n Shared = hold.Shares (n + 1)
gained n Upgradable = hold.Upgrades
gained n Pending = hold.Excludes
gained n Exclusive = hold.Excludes

-- without it
abbrev pub kept : ℕ → Bool → Hold
kept n true = hold.Upgrades
kept n false = hold.Shares n

-- with the hold given up
abbrev pub freed : ℕ → Bool → Hold
freed n true = hold.Shares 0
freed n false = hold.Shares n

-- with the hold that it was turned into
abbrev pub turned : OwnMode → Hold
turned Shared = hold.Shares 1
turned Upgradable = hold.Upgrades
turned Pending = hold.Excludes
turned Exclusive = hold.Excludes

-- HOW A CALL GOES ON

-- what may follow
abbrev pub Reaches : ℕ → Stage → Stage → Type 0
Reaches n (Asks m from) (Over Owned h) = h ≡ gained n m
Reaches n (Tries m from) (Over Owned h) = h ≡ gained n m
Reaches n (Tries m from) (Over Refused h) = h ≡ kept n from
Reaches n (Quits m from) (Asks k back) = (k ≡ m) × (back ≡ from)
Reaches n (Quits m from) (Over Owned h) = h ≡ gained n m
Reaches n (Quits m from) (Over Refused h) = h ≡ kept n from
Reaches n (Quits m from) (Over Released h) = h ≡ kept n from
Reaches n (Frees all) (Over Released h) = h ≡ freed n all
Reaches n (Turns m) (Over Owned h) = h ≡ turned m
Reaches n a b = ⊥

-- it stays where it is, or goes on
abbrev pub Leads : ℕ → Stage → Stage → Type 0
Leads n a b = (b ≡ a) ⊎ Reaches n a b

-- its deadline comes
abbrev pub quits : Stage → Stage
quits (Asks m from) = Quits m from
quits other = other

-- WHERE THE PHASES OF EACH CORE STAND

abbrev pub mode_for : LockMode → OwnMode
mode_for (want.Shared recursive) = Shared
mode_for want.Exclusive = Exclusive

abbrev pub giving : Giving → Stage → Stage
giving g end = if g.again then Asks Exclusive false else end

abbrev pub mutex_stage : ℕ → MutexPhase → Stage
mutex_stage n mx.Trying = Tries Exclusive false
mutex_stage n mx.TryLoads = Tries Exclusive false
mutex_stage n (mx.TryLocks waiters left) = Tries Exclusive false
mutex_stage n mx.Refuses = Over Refused (hold.Shares n)
mutex_stage n (mx.Unlocking fair) = Frees true
mutex_stage n (mx.Unlocks g) = giving g (Frees true)
mutex_stage n (mx.Looks g) = giving g (Frees true)
mutex_stage n (mx.Takes g) = giving g (Frees true)
mutex_stage n (mx.Stores g taken left) = giving g (Frees true)
mutex_stage n (mx.Leaves g taken handed) = giving g (Frees true)
mutex_stage n (mx.Wakes g) = giving g (Frees true)
mutex_stage n (mx.Finishes g) = giving g (Over Released (hold.Shares 0))
mutex_stage n (mx.Ends answer) = Over answer (mutex_hold_after (mx.Ends answer))
mutex_stage n mx.Invalid = Over Refused (hold.Shares n)
mutex_stage n phase = Asks Exclusive false

abbrev pub rest_stage : AfterWake → Stage
rest_stage rest.FreedShared = Frees false
rest_stage rest.FreedExclusive = Frees true
rest_stage rest.Downgraded = Turns Shared
rest_stage rest.AgainShared = Asks Shared false
rest_stage rest.AgainExclusive = Asks Exclusive false

abbrev pub last_stage : ℕ → AfterWake → Stage
last_stage n rest.FreedShared = Over Released (hold.Shares n)
last_stage n rest.FreedExclusive = Over Released (hold.Shares 0)
last_stage n rest.Downgraded = Over Owned (hold.Shares 1)
last_stage n rest.AgainShared = Asks Shared false
last_stage n rest.AgainExclusive = Asks Exclusive false

abbrev pub rw_stage : ℕ → RwPhase → Stage
rw_stage n (r.Locking want) = Asks (mode_for want) false
rw_stage n (r.Trying want) = Tries (mode_for want) false
rw_stage n r.UnlockingShared = Frees false
rw_stage n (r.UnlockingExclusive fair) = Frees true
rw_stage n r.Downgrading = Turns Shared
rw_stage n r.BumpingShared = Asks Shared false
rw_stage n r.BumpingExclusive = Asks Exclusive false
rw_stage n (r.Loads a) = Asks (mode_for a.want) false
rw_stage n (r.Admits a word) = Asks (mode_for a.want) false
rw_stage n (r.Spins a) = Asks (mode_for a.want) false
rw_stage n (r.SetParked a word) = Asks (mode_for a.want) false
rw_stage n (r.Enters want woken) = Asks (mode_for want) false
rw_stage n (r.Checks want woken) = Asks (mode_for want) false
rw_stage n (r.Retreats want woken) = Asks (mode_for want) false
rw_stage n (r.Appends want) = Asks (mode_for want) false
rw_stage n (r.Rests want) = Asks (mode_for want) false
rw_stage n (r.Sleeps want) = Asks (mode_for want) false
rw_stage n (r.DrainLoads d) = Asks Exclusive false
rw_stage n (r.DrainSpins d) = Asks Exclusive false
rw_stage n (r.DrainSetParked d word) = Asks Exclusive false
rw_stage n (r.DrainEnters d) = Asks Exclusive false
rw_stage n (r.DrainChecks d) = Asks Exclusive false
rw_stage n (r.DrainRetreats d) = Asks Exclusive false
rw_stage n (r.DrainAppends rounds) = Asks Exclusive false
rw_stage n (r.DrainRests rounds) = Asks Exclusive false
rw_stage n (r.DrainSleeps rounds) = Asks Exclusive false
rw_stage n (r.TryLoads want) = Tries (mode_for want) false
rw_stage n (r.TryAdmits want word left) = Tries (mode_for want) false
rw_stage n (r.Refuses want) = Over Refused (hold.Shares n)
rw_stage n (r.BumpLoads want) = Asks (mode_for want) false
rw_stage n (r.Relocks want) = Asks (mode_for want) false
rw_stage n (r.Unshares rest) = rest_stage rest
rw_stage n (r.EnterWriterWakeSection rest) = rest_stage rest
rw_stage n (r.TakeWriter rest) = rest_stage rest
rw_stage n (r.ClearWriterParked rest taken) = rest_stage rest
rw_stage n (r.LeaveWriterWakeSection rest taken) = rest_stage rest
rw_stage n (r.Unlocks fair rest) = rest_stage rest
rw_stage n (r.LooksExclusive fair rest) = rest_stage rest
rw_stage n r.Downgrades = Turns Shared
rw_stage n r.EnterWakeSection = Turns Shared
rw_stage n (r.Scans s) = rest_stage s.rest
rw_stage n (r.Stores s left) = rest_stage s.rest
rw_stage n (r.Leaves rest count handed) = rest_stage rest
rw_stage n (r.Wakes rest count) = rest_stage rest
rw_stage n (r.Finishes rest) = last_stage n rest
rw_stage n (r.Ends outcome) = Over (answer_of outcome) (outcome_hold n outcome)
rw_stage n r.Invalid = Over Refused (hold.Shares n)

-- one that waits for readers to leave, and had the upgradable hold before
abbrev pub drains_stage : RwPhase → Stage
drains_stage (r.Ends outcome) = Over Owned hold.Excludes
drains_stage phase = Asks Exclusive true

abbrev pub frees_stage : RwPhase → Stage
frees_stage (r.Finishes rest) = Over Released (hold.Shares 0)
frees_stage phase = Frees true

abbrev pub upgrade_stage : ℕ → UpgradePhase → Stage
upgrade_stage n (u.Plain core) = rw_stage n core.phase
upgrade_stage n u.Trying = Tries Upgradable false
upgrade_stage n u.TryLoads = Tries Upgradable false
upgrade_stage n (u.TryAdmits word left) = Tries Upgradable false
upgrade_stage n u.Refuses = Over Refused (hold.Shares n)
upgrade_stage n (u.Unlocking release) = Frees true
upgrade_stage n (u.UnlockLoads release) = Frees true
upgrade_stage n (u.Unlocks release word) = Frees true
upgrade_stage n (u.Frees release core) = frees_stage core.phase
upgrade_stage n u.Upgrading = Asks Exclusive true
upgrade_stage n u.Upgrades = Asks Exclusive true
upgrade_stage n (u.Drains core) = drains_stage core.phase
upgrade_stage n u.TryingToUpgrade = Tries Exclusive true
upgrade_stage n u.TryUpgradeLoads = Tries Exclusive true
upgrade_stage n (u.TryUpgrades word left) = Tries Exclusive true
upgrade_stage n u.DowngradingToShared = Turns Shared
upgrade_stage n u.ToShared = Turns Shared
upgrade_stage n u.DowngradingToUpgradable = Turns Upgradable
upgrade_stage n u.ToUpgradable = Turns Upgradable
upgrade_stage n (u.GivingUp from) = Quits Exclusive from
upgrade_stage n (u.YieldLoads from) = Quits Exclusive from
upgrade_stage n (u.Yields from word) = Quits Exclusive from
upgrade_stage n (u.Owes kept answer core) = Over answer (kept_hold kept)
upgrade_stage n (u.Ends kept answer) = Over answer (kept_hold kept)
upgrade_stage n u.Invalid = Over Refused (hold.Shares n)
upgrade_stage n phase = Asks Upgradable false

-- one that has taken itself out of its list is refused for sure
abbrev pub late_stage : ℕ → LatePhase → Stage
late_stage n late.Expires = Quits Exclusive false
late_stage n late.Quits = Quits Exclusive false
late_stage n late.Masks = Over Refused (hold.Shares n)
late_stage n late.Leaves = Over Refused (hold.Shares n)
late_stage n late.GivesUp = Over Refused (hold.Shares n)
late_stage n (late.WasTaken by handed) = Quits Exclusive false

abbrev pub sleeper_stage : ℕ → RwSleeper → Stage
sleeper_stage n (sleeper.Simple c) = rw_stage n c.phase
sleeper_stage n (sleeper.Upgradable c) = upgrade_stage n c.phase

abbrev pub late_rw_stage : ℕ → LateRwPhase → Stage
late_rw_stage n (late_rw.Expires k) = quits (sleeper_stage n k)
late_rw_stage n (late_rw.Quits k) = quits (sleeper_stage n k)
late_rw_stage n late_rw.Masks = Over Refused (hold.Shares n)
late_rw_stage n late_rw.Leaves = Over Refused (hold.Shares n)
late_rw_stage n late_rw.GivesUp = Over Refused (hold.Shares n)
late_rw_stage n (late_rw.LeavesPending from) = Quits Exclusive from
late_rw_stage n (late_rw.WasTaken k by handed) = quits (sleeper_stage n k)

abbrev pub core_stage : ℕ → Core → Stage
core_stage n (core.Mutex c) = mutex_stage n c.phase
core_stage n (core.Rw c) = rw_stage n c.phase
core_stage n (core.Late p) = late_stage n p
core_stage n (core.LateRw p) = late_rw_stage n p
core_stage n (core.Upgrade c) = upgrade_stage n c.phase

abbrev pub stage : Call → Stage
stage c = core_stage c.others c.core
