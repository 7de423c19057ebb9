-- What calls are about: of which locks they can be asked, and what their callers have to own.
use Rattle.std.specs.Prelude.{Bool, true, false, Option, Some, None}
use Rattle.parking_lot_machine_calls.specs.declared.calls.LockKind.{LockKind}
use Rattle.parking_lot_machine_calls.specs.declared.calls.LockCall.{LockCall}
use Rattle.parking_lot_machine_calls.specs.declared.calls.LockCall.TheVariants as call
use Rattle.parking_lot_machine_calls.specs.declared.calls.OwnMode.{OwnMode}
use Rattle.parking_lot_machine_calls.specs.declared.calls.OwnMode.TheVariants as mode
use Rattle.parking_lot_machine_calls.specs.Kinds.{Manner, AsMutex, AsRw, manner_of, is_manner}

abbrev pub manner_for : LockCall → Manner
manner_for call.Lock = AsMutex
manner_for call.TryLock = AsMutex
manner_for call.LockUntil = AsMutex
manner_for call.Unlock = AsMutex
manner_for call.Read = AsRw
manner_for call.TryRead = AsRw
manner_for call.UnlockRead = AsRw
manner_for call.Write = AsRw
manner_for call.TryWrite = AsRw
manner_for call.UnlockWrite = AsRw
manner_for call.Downgrade = AsRw
manner_for call.UpgradableRead = AsRw
manner_for call.TryUpgradableRead = AsRw
manner_for call.UnlockUpgradable = AsRw
manner_for call.Upgrade = AsRw
manner_for call.TryUpgrade = AsRw
manner_for call.DowngradeToUpgradable = AsRw
manner_for call.DowngradeUpgradable = AsRw
manner_for call.ReadUntil = AsRw
manner_for call.WriteUntil = AsRw
manner_for call.UpgradableUntil = AsRw
manner_for call.UpgradeUntil = AsRw

-- whether a lock of a kind can be asked so
abbrev pub takes : Option LockKind → LockCall → Bool
takes k c = is_manner (manner_of k) (manner_for c)

-- what the caller has to own, and gives up or changes; nothing where it asks for the lock
abbrev pub given_up : LockCall → Option OwnMode
given_up call.Lock = None
given_up call.TryLock = None
given_up call.LockUntil = None
given_up call.Unlock = Some mode.Exclusive
given_up call.Read = None
given_up call.TryRead = None
given_up call.UnlockRead = Some mode.Shared
given_up call.Write = None
given_up call.TryWrite = None
given_up call.UnlockWrite = Some mode.Exclusive
given_up call.Downgrade = Some mode.Exclusive
given_up call.UpgradableRead = None
given_up call.TryUpgradableRead = None
given_up call.UnlockUpgradable = Some mode.Upgradable
given_up call.Upgrade = Some mode.Upgradable
given_up call.TryUpgrade = Some mode.Upgradable
given_up call.DowngradeToUpgradable = Some mode.Exclusive
given_up call.DowngradeUpgradable = Some mode.Upgradable
given_up call.ReadUntil = None
given_up call.WriteUntil = None
given_up call.UpgradableUntil = None
given_up call.UpgradeUntil = Some mode.Upgradable

-- whether its moment may pass as it sleeps
abbrev pub is_timed : LockCall → Bool
is_timed call.LockUntil = true
is_timed call.ReadUntil = true
is_timed call.WriteUntil = true
is_timed call.UpgradableUntil = true
is_timed call.UpgradeUntil = true
is_timed c = false
