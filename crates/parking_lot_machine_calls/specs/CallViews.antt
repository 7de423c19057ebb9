-- What a call says of its thread at its lock: how it owns the lock, whether it is in debt there, and whether it sleeps.
use Rattle.std.specs.Prelude.{◌≡◌, ◌<◌, ℕ, zero, suc, Bool, true, false, List, [], ◌∷◌, Option, Some, None}
use Rattle.parking_lot_rules.specs.Roles.{Role}
use Rattle.parking_lot_rules.specs.Classes.{Readers, Upgraders, Pending, Writers, Strange, weight}
use Rattle.parking_lot_rules.specs.Owners.{Owner, Reading, Upgrading, Awaiting, Writing, owner_of}
use Rattle.parking_lot_rules.specs.Laws as of_rw
use Rattle.parking_lot_rules.specs.Debts as rw_debts
use Rattle.parking_lot_rules.specs.Mutex as mutex
use Rattle.parking_lot_rules.specs.MutexOwners as mutex_owners
use Rattle.parking_lot_rules.specs.MutexLaws as of_mutex
use Rattle.parking_lot_rules.specs.MutexDebts as mutex_debts
use Rattle.parking_lot_protocol.specs.declared.mutex_phase.MutexPhase.{MutexPhase}
use Rattle.parking_lot_protocol.specs.declared.mutex_phase.MutexPhase.TheVariants as m
use Rattle.parking_lot_protocol.specs.declared.rw_phase.LockMode.TheVariants as want
use Rattle.parking_lot_protocol.specs.declared.rw_phase.RwPhase.{RwPhase}
use Rattle.parking_lot_protocol.specs.declared.rw_phase.RwPhase.TheVariants as r
use Rattle.parking_lot_protocol_rw.specs.declared.upgrade_phase.UpgradePhase.{UpgradePhase}
use Rattle.parking_lot_protocol_rw.specs.declared.upgrade_phase.UpgradePhase.TheVariants as u
use Rattle.parking_lot_protocol_rw.specs.UpgradeRules as of_upgrade
use Rattle.parking_lot_machine_calls.specs.CallKinds.{IsOfWorld}
use Rattle.parking_lot_machine_calls.specs.declared.calls.LockKind.{LockKind}
use Rattle.parking_lot_machine_calls.specs.declared.calls.LockKind.TheVariants as kind
use Rattle.parking_lot_machine_calls.specs.declared.calls.OwnMode.{OwnMode}
use Rattle.parking_lot_machine_calls.specs.declared.calls.OwnMode.TheVariants as mode
use Rattle.parking_lot_protocol_rw.specs.declared.upgrade_phase.Hold as up
use Rattle.parking_lot_protocol_rw.specs.declared.upgrade_phase.Hold.TheVariants as up_hold
use Rattle.parking_lot_machine_calls.specs.declared.seat.Hold.{Hold}
use Rattle.parking_lot_machine_calls.specs.declared.seat.Hold.TheVariants as hold
use Rattle.parking_lot_machine_calls.specs.declared.seat.QueuePosition.{QueuePosition}
use Rattle.parking_lot_machine_calls.specs.declared.seat.QueuePosition.TheVariants as spot
use Rattle.parking_lot_machine_calls.specs.declared.seat.WakeResult.TheVariants as told
use Rattle.parking_lot_machine_calls.specs.declared.late_rw.LateRwPhase.{LateRwPhase}
use Rattle.parking_lot_machine_calls.specs.declared.late_rw.LateRwPhase.TheVariants as late_rw
use Rattle.parking_lot_machine_calls.specs.declared.late_rw.RwSleeper.{RwSleeper}
use Rattle.parking_lot_machine_calls.specs.declared.late_rw.RwSleeper.TheVariants as sleeper
use Rattle.parking_lot_machine_calls.specs.declared.seat.Core.{Core}
use Rattle.parking_lot_machine_calls.specs.declared.seat.Core.TheVariants as core
use Rattle.parking_lot_machine_calls.specs.declared.open_call.Call.{Call}
use Rattle.parking_lot_machine_calls.specs.CallRoles.{rw_core_role, mutex_core_role}
use Rattle.parking_lot_machine_calls.specs.Stances.{sleeper_asleep}

-- HOW A ROLE OWNS ITS LOCK

-- no shared hold is no owner
abbrev pub mode_of : Owner → Option OwnMode
mode_of (Reading zero) = None
mode_of (Reading (suc n)) = Some mode.Shared
mode_of Upgrading = Some mode.Upgradable
mode_of Awaiting = Some mode.Pending
mode_of Writing = Some mode.Exclusive

abbrev pub rw_mode : Role → Option OwnMode
rw_mode r = mode_of (owner_of r.owns r.does)

abbrev pub mutex_mode_if : Bool → Option OwnMode
mutex_mode_if true = Some mode.Exclusive
mutex_mode_if false = None

abbrev pub mutex_mode : mutex.Role → Option OwnMode
mutex_mode r = mutex_mode_if (mutex_owners.owner_of r.owns r.does)

-- HOW ONE OWNS A LOCK THAT IS IN NO CALL THERE

abbrev pub shared_mode : ℕ → Option OwnMode
shared_mode zero = None
shared_mode (suc n) = Some mode.Shared

-- how one owns a lock of a kind that is in no call there
abbrev pub hold_mode : Option LockKind → Hold → Option OwnMode
hold_mode k hold.Excludes = Some mode.Exclusive
hold_mode (Some kind.Mutex) hold.Upgrades = None
hold_mode (Some kind.FairMutex) hold.Upgrades = None
hold_mode (Some kind.Rw) hold.Upgrades = Some mode.Upgradable
hold_mode (Some kind.RwRecursive) hold.Upgrades = Some mode.Upgradable
hold_mode None hold.Upgrades = Some mode.Upgradable
hold_mode (Some kind.Mutex) (hold.Shares n) = None
hold_mode (Some kind.FairMutex) (hold.Shares n) = None
hold_mode (Some kind.Rw) (hold.Shares n) = shared_mode n
hold_mode (Some kind.RwRecursive) (hold.Shares n) = shared_mode n
hold_mode None (hold.Shares n) = shared_mode n

-- WHAT MODES WEIGH

-- The classes of owners weigh what the mode says. One at least of the class, and of the others nobody.
abbrev pub Weighs : (readers upgraders pending writers : ℕ) → Option OwnMode → Type 0
Weighs r u p w None = (r ≡ 0) × (u ≡ 0) × (p ≡ 0) × (w ≡ 0)
Weighs r u p w (Some mode.Shared) = (0 < r) × (u ≡ 0) × (p ≡ 0) × (w ≡ 0)
Weighs r u p w (Some mode.Upgradable) = (r ≡ 0) × (u ≡ 1) × (p ≡ 0) × (w ≡ 0)
Weighs r u p w (Some mode.Pending) = (r ≡ 0) × (u ≡ 0) × (p ≡ 1) × (w ≡ 0)
Weighs r u p w (Some mode.Exclusive) = (r ≡ 0) × (u ≡ 0) × (p ≡ 0) × (w ≡ 1)

abbrev pub owning_of : Option OwnMode → ℕ
owning_of None = 0
owning_of (Some m) = 1

-- That is so of every role that a sound lock can have.
pub record ModesAreWeighed : Type 0 where
  pub rw : (r : Role) → weight Strange r ≡ 0 → Weighs (weight Readers r) (weight Upgraders r) (weight Pending r)
      (weight Writers r) (rw_mode r)
  pub mutex : (r : mutex.Role) → mutex.weight mutex.Strange r ≡ 0 → mutex.weight mutex.Owning r ≡ owning_of
      (mutex_mode r)

-- THE ROLE OF A CALL'S THREAD, WHICH HAS TAKEN us AND IS TO WAKE THEM

abbrev pub core_mode : ℕ → QueuePosition → List ℕ → Core → Option OwnMode
core_mode n at us (core.Mutex c) = mutex_mode (mutex_core_role at us (core.Mutex c))
core_mode n at us (core.Rw c) = rw_mode (rw_core_role n at us (core.Rw c))
core_mode n at us (core.Late p) = mutex_mode (mutex_core_role at us (core.Late p))
core_mode n at us (core.LateRw p) = rw_mode (rw_core_role n at us (core.LateRw p))
core_mode n at us (core.Upgrade c) = rw_mode (rw_core_role n at us (core.Upgrade c))

abbrev pub core_in_debt : ℕ → QueuePosition → List ℕ → Core → Bool
core_in_debt n at us (core.Mutex c) = mutex_debts.is_in_debt (mutex_core_role at us (core.Mutex c)).does
core_in_debt n at us (core.Rw c) = rw_debts.is_in_debt (rw_core_role n at us (core.Rw c)).does
core_in_debt n at us (core.Late p) = mutex_debts.is_in_debt (mutex_core_role at us (core.Late p)).does
core_in_debt n at us (core.LateRw p) = rw_debts.is_in_debt (rw_core_role n at us (core.LateRw p)).does
core_in_debt n at us (core.Upgrade c) = rw_debts.is_in_debt (rw_core_role n at us (core.Upgrade c)).does

abbrev pub core_asleep : ℕ → QueuePosition → List ℕ → Core → Bool
core_asleep n at us (core.Mutex c) = of_mutex.is_asleep (mutex_core_role at us (core.Mutex c)).does
core_asleep n at us (core.Rw c) = of_rw.is_asleep (rw_core_role n at us (core.Rw c)).does
core_asleep n at us (core.Late p) = of_mutex.is_asleep (mutex_core_role at us (core.Late p)).does
core_asleep n at us (core.LateRw p) = of_rw.is_asleep (rw_core_role n at us (core.LateRw p)).does
core_asleep n at us (core.Upgrade c) = of_rw.is_asleep (rw_core_role n at us (core.Upgrade c)).does

-- whether anybody is in a list
abbrev pub are_some : List ℕ → Bool
are_some [] = false
are_some (v ∷ us) = true

abbrev pub call_mode : List ℕ → Call → Option OwnMode
call_mode us c = core_mode c.others c.spot us c.core

abbrev pub call_in_debt : List ℕ → Call → Bool
call_in_debt us c = core_in_debt c.others c.spot us c.core

abbrev pub call_asleep : List ℕ → Call → Bool
call_asleep us c = core_asleep c.others c.spot us c.core

-- An owner that gives the lock up and has seen that others wait, and enters a section next.
abbrev pub mutex_looks : MutexPhase → Bool
mutex_looks (m.Looks giving) = true
mutex_looks phase = false

abbrev pub rw_looks : RwPhase → Bool
rw_looks (r.LooksExclusive fair rest) = true
rw_looks phase = false

-- HOW AN UPGRADABLE CALL OWNS ITS LOCK

abbrev pub kept_mode : up.Hold → Option OwnMode
kept_mode up_hold.Nothing = None
kept_mode up_hold.Shared = Some mode.Shared
kept_mode up_hold.Upgradable = Some mode.Upgradable
kept_mode up_hold.Exclusive = Some mode.Exclusive

-- one that sleeps and was handed the hold, or not
abbrev pub seeker_mode : QueuePosition → RwPhase → Option OwnMode
seeker_mode (spot.Off by told.HandedOver) (r.Sleeps want) = Some mode.Upgradable
seeker_mode at phase = None

abbrev pub drainer_mode : RwPhase → Option OwnMode
drainer_mode (r.Ends outcome) = Some mode.Exclusive
drainer_mode phase = Some mode.Pending

abbrev pub freer_mode : RwPhase → Option OwnMode
freer_mode (r.LooksExclusive fair rest) = Some mode.Upgradable
freer_mode (r.Scans s) = Some mode.Upgradable
freer_mode (r.Stores s left) = Some mode.Upgradable
freer_mode phase = None

abbrev pub upgrade_mode : QueuePosition → UpgradePhase → Option OwnMode
upgrade_mode at (u.Seeks core) = seeker_mode at core.phase
upgrade_mode at (u.Drains core) = drainer_mode core.phase
upgrade_mode at (u.Frees release core) = freer_mode core.phase
upgrade_mode at (u.Owes kept answer core) = kept_mode kept
upgrade_mode at (u.Ends kept answer) = kept_mode kept
upgrade_mode at (u.Unlocking release) = Some mode.Upgradable
upgrade_mode at u.Bumping = Some mode.Upgradable
upgrade_mode at u.Upgrading = Some mode.Upgradable
upgrade_mode at u.TryingToUpgrade = Some mode.Upgradable
upgrade_mode at u.DowngradingToShared = Some mode.Upgradable
upgrade_mode at u.Upgrades = Some mode.Upgradable
upgrade_mode at u.TryUpgradeLoads = Some mode.Upgradable
upgrade_mode at (u.TryUpgrades word left) = Some mode.Upgradable
upgrade_mode at u.BumpLoads = Some mode.Upgradable
upgrade_mode at u.ToShared = Some mode.Upgradable
upgrade_mode at (u.UnlockLoads release) = Some mode.Upgradable
upgrade_mode at (u.Unlocks release word) = Some mode.Upgradable
upgrade_mode at u.DowngradingToUpgradable = Some mode.Exclusive
upgrade_mode at u.ToUpgradable = Some mode.Exclusive
upgrade_mode at (u.YieldLoads from) = Some mode.Pending
upgrade_mode at (u.Yields from word) = Some mode.Pending
upgrade_mode at phase = None

abbrev pub upgrade_looks : UpgradePhase → Bool
upgrade_looks (u.Frees release core) = rw_looks core.phase
upgrade_looks phase = false

-- What is said of an upgradable call is said of one that is ready, as each is that a machine runs; and of one whose
-- moment has passed, that it slept.
abbrev pub IsReadySleeper : RwSleeper → Type 0
IsReadySleeper (sleeper.Simple c) = Unit {0}
IsReadySleeper (sleeper.Upgradable c) = of_upgrade.IsReady c.phase × IsOfWorld c.phase

abbrev pub HasSlept : RwSleeper → Type 0
HasSlept k = (sleeper_asleep k ≡ true) × IsReadySleeper k

abbrev pub IsLateInOrder : LateRwPhase → Type 0
IsLateInOrder (late_rw.Expires k) = HasSlept k
IsLateInOrder (late_rw.Quits k) = HasSlept k
IsLateInOrder (late_rw.WasTaken k by handed) = HasSlept k
IsLateInOrder p = Unit {0}

-- whether one that was taken, and handed the lock, is to look whether readers are left
abbrev pub simple_looks : RwPhase → Bool
simple_looks (r.Sleeps (want.Shared recursive)) = false
simple_looks phase = true

abbrev pub draining_looks : UpgradePhase → Bool
draining_looks (u.Drains core) = true
draining_looks phase = false

abbrev pub still_looks : RwSleeper → Bool
still_looks (sleeper.Simple c) = simple_looks c.phase
still_looks (sleeper.Upgradable c) = draining_looks c.phase

abbrev pub IsLateAsSlept : Core → Type 0
IsLateAsSlept (core.LateRw p) = IsLateInOrder p
IsLateAsSlept k = Unit {0}

abbrev pub IsInOrder : Core → Type 0
IsInOrder (core.LateRw p) = IsLateInOrder p
IsInOrder (core.Upgrade c) = of_upgrade.IsReady c.phase × IsOfWorld c.phase
IsInOrder k = Unit {0}

abbrev pub call_looks : Core → Bool
call_looks (core.Mutex c) = mutex_looks c.phase
call_looks (core.Rw c) = rw_looks c.phase
call_looks (core.Late p) = false
call_looks (core.LateRw p) = false
call_looks (core.Upgrade c) = upgrade_looks c.phase
