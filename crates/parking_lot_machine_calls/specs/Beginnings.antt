-- How calls begin: with which core, and who may make them.
use Rattle.std.specs.Prelude.{◌≡◌, ℕ, zero, suc, ◌-◌, nat_lt, Bool, true, false, List, Some}
use Rattle.parking_lot_rules.specs.Roles.{Idle}
use Rattle.parking_lot_rules.specs.Mutex as mutex
use Rattle.parking_lot_protocol.specs.declared.act.ActResult.TheVariants as seen
use Rattle.parking_lot_protocol.specs.declared.mutex_phase.MutexPhase.TheVariants as m
use Rattle.parking_lot_protocol.specs.declared.rw_phase.RwPhase.TheVariants as r
use Rattle.parking_lot_protocol.specs.declared.rw_phase.LockMode.TheVariants as want
use Rattle.parking_lot_protocol_rw.specs.declared.upgrade_phase.UpgradePhase.TheVariants as u
use Rattle.parking_lot_protocol_rw.specs.declared.upgrade_phase.Release.TheVariants as release
use Rattle.parking_lot_machine_calls.specs.declared.calls.LockKind.{LockKind}
use Rattle.parking_lot_machine_calls.specs.declared.calls.LockKind.TheVariants as kind
use Rattle.parking_lot_machine_calls.specs.declared.calls.LockCall.{LockCall}
use Rattle.parking_lot_machine_calls.specs.declared.calls.LockCall.TheVariants as call
use Rattle.parking_lot_machine_calls.specs.declared.seat.Hold.{Hold}
use Rattle.parking_lot_machine_calls.specs.declared.seat.Hold.TheVariants as hold
use Rattle.parking_lot_machine_calls.specs.declared.seat.QueuePosition.{QueuePosition}
use Rattle.parking_lot_machine_calls.specs.declared.seat.Core.{Core}
use Rattle.parking_lot_machine_calls.specs.declared.seat.Core.TheVariants as core
use Rattle.parking_lot_machine_calls.specs.CallRoles.{owned_of, owns_mutex, rw_core_role, mutex_core_role}
use Rattle.parking_lot_machine_calls.specs.CallKinds.{IsOfKind}
use Rattle.parking_lot_machine_calls.specs.Stances.{Out, stance, taken_count, core_next, has_begun}
use Rattle.parking_lot_machine_calls.specs.Calls.{takes}
use Rattle.parking_lot_machine_calls.specs.Kinds.{is_recursive}

-- a fair mutex is handed over
abbrev pub is_fair : LockKind → Bool
is_fair kind.FairMutex = true
is_fair other = false

-- at a lock of a kind
abbrev pub core_of : LockKind → LockCall → Core
core_of k call.Lock = core.Mutex (record { phase = m.Locking })
core_of k call.TryLock = core.Mutex (record { phase = m.Trying })
core_of k call.LockUntil = core.Mutex (record { phase = m.Locking })
core_of k call.Unlock = core.Mutex (record { phase = m.Unlocking (is_fair k) })
core_of k call.Read = core.Rw (record { phase = r.Locking (want.Shared (is_recursive k)) })
core_of k call.TryRead = core.Rw (record { phase = r.Trying (want.Shared (is_recursive k)) })
core_of k call.UnlockRead = core.Rw (record { phase = r.UnlockingShared })
core_of k call.Write = core.Rw (record { phase = r.Locking want.Exclusive })
core_of k call.TryWrite = core.Rw (record { phase = r.Trying want.Exclusive })
core_of k call.UnlockWrite = core.Rw (record { phase = r.UnlockingExclusive false })
core_of k call.Downgrade = core.Rw (record { phase = r.Downgrading })
core_of k call.UpgradableRead = core.Upgrade (record { phase = u.Locking })
core_of k call.TryUpgradableRead = core.Upgrade (record { phase = u.Trying })
core_of k call.UnlockUpgradable = core.Upgrade (record { phase = u.Unlocking release.Plain })
core_of k call.Upgrade = core.Upgrade (record { phase = u.Upgrading })
core_of k call.TryUpgrade = core.Upgrade (record { phase = u.TryingToUpgrade })
core_of k call.DowngradeToUpgradable = core.Upgrade (record { phase = u.DowngradingToUpgradable })
core_of k call.DowngradeUpgradable = core.Upgrade (record { phase = u.DowngradingToShared })
core_of k call.ReadUntil = core.Rw (record { phase = r.Locking (want.Shared (is_recursive k)) })
core_of k call.WriteUntil = core.Rw (record { phase = r.Locking want.Exclusive })
core_of k call.UpgradableUntil = core.Upgrade (record { phase = u.Locking })
core_of k call.UpgradeUntil = core.Upgrade (record { phase = u.Upgrading })

abbrev pub owns_nothing : Hold → Bool
owns_nothing (hold.Shares zero) = true
owns_nothing (hold.Shares (suc n)) = false
owns_nothing hold.Excludes = false
owns_nothing hold.Upgrades = false

abbrev pub shares : Hold → Bool
shares (hold.Shares zero) = false
shares (hold.Shares (suc n)) = true
shares hold.Excludes = false
shares hold.Upgrades = false

abbrev pub excludes : Hold → Bool
excludes (hold.Shares n) = false
excludes hold.Excludes = true
excludes hold.Upgrades = false

abbrev pub upgrades : Hold → Bool
upgrades (hold.Shares n) = false
upgrades hold.Excludes = false
upgrades hold.Upgrades = true

-- At a recursive lock a reader may read again, up to 255 times.
abbrev pub may_share : LockKind → Hold → Bool
may_share kind.RwRecursive (hold.Shares n) = nat_lt n 255
may_share kind.RwRecursive hold.Excludes = false
may_share kind.RwRecursive hold.Upgrades = false
may_share other h = owns_nothing h

-- Whether one that owns a lock of a kind so may ask that of it. Nobody else asks again for a lock that it owns.
abbrev pub is_allowed : LockKind → Hold → LockCall → Bool
is_allowed k h call.Lock = owns_nothing h
is_allowed k h call.TryLock = owns_nothing h
is_allowed k h call.LockUntil = owns_nothing h
is_allowed k h call.Unlock = excludes h
is_allowed k h call.Read = may_share k h
is_allowed k h call.TryRead = may_share k h
is_allowed k h call.UnlockRead = shares h
is_allowed k h call.Write = owns_nothing h
is_allowed k h call.TryWrite = owns_nothing h
is_allowed k h call.UnlockWrite = excludes h
is_allowed k h call.Downgrade = excludes h
is_allowed k h call.UpgradableRead = owns_nothing h
is_allowed k h call.TryUpgradableRead = owns_nothing h
is_allowed k h call.UnlockUpgradable = upgrades h
is_allowed k h call.Upgrade = upgrades h
is_allowed k h call.TryUpgrade = upgrades h
is_allowed k h call.DowngradeToUpgradable = excludes h
is_allowed k h call.DowngradeUpgradable = upgrades h
is_allowed k h call.ReadUntil = may_share k h
is_allowed k h call.WriteUntil = owns_nothing h
is_allowed k h call.UpgradableUntil = owns_nothing h
is_allowed k h call.UpgradeUntil = upgrades h

-- how many shared holds it has beside the one that it gives up or asks for
abbrev pub holds : Hold → ℕ
holds (hold.Shares n) = n
holds hold.Excludes = 0
holds hold.Upgrades = 0

abbrev pub holds_beside : LockCall → Hold → ℕ
holds_beside call.Read h = holds h
holds_beside call.TryRead h = holds h
holds_beside call.ReadUntil h = holds h
holds_beside other h = holds h - 1

-- Its role as the call begins is the one that it had.
abbrev pub BeginsAs : ℕ → Hold → Core → Type 0
BeginsAs n h (core.Mutex c) = (at : QueuePosition) (us : List ℕ)
    → mutex_core_role at us (core.Mutex c) ≡ record { owns = owns_mutex h; does = mutex.Idle }
BeginsAs n h (core.Late p) = ⊥
BeginsAs n h (core.LateRw p) = ⊥
BeginsAs n h (core.Upgrade c) = (at : QueuePosition) (us : List ℕ) → rw_core_role n at us (core.Upgrade c)
    ≡ record { owns = owned_of h; does = Idle }
BeginsAs n h (core.Rw c) = (at : QueuePosition) (us : List ℕ)
    → rw_core_role n at us (core.Rw c) ≡ record { owns = owned_of h; does = Idle }

pub record BeginsWell (k : LockKind) (h : Hold) (c : LockCall) : Type 0 where
  pub kind : takes (Some k) c ≡ true → IsOfKind (Some k) (core_of k c)
  pub role : BeginsAs (holds_beside c h) h (core_of k c)
  pub out : stance (core_next (core_of k c) seen.Start) ≡ Out
  pub nobody : taken_count (core_next (core_of k c) seen.Start) ≡ 0
  pub begun : has_begun (core_next (core_of k c) seen.Start) ≡ true

abbrev pub AllowedCallsBeginWell : Type 0
AllowedCallsBeginWell = (k : LockKind) (h : Hold) (c : LockCall) → is_allowed k h c ≡ true → BeginsWell k h c
