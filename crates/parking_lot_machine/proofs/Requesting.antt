-- A call that may begin begins as the rules ask.
use Rattle.std.proofs.Common.{◌≡◌, ℕ, zero, suc, ◌-◌, ◌≤◌, nat_lt, true, false, Option, Some, None, slice_get, refl}
use Rattle.std.proofs.Common.{sym, ap, subst, arith}
use Rattle.std.proofs.lemmas.Bool.{both_ways, ltb-true}
use Rattle.std.specs.Prelude.{is_none, length}
use Rattle.parking_lot_rules.specs.Roles.{Shares}
use Rattle.parking_lot_protocol.specs.declared.rw_phase.LockMode.TheVariants as want
use Rattle.parking_lot_protocol.specs.declared.rw_phase.RwPhase.{RwPhase}
use Rattle.parking_lot_protocol.proofs.RwWords.{both}
use Rattle.parking_lot_machine_calls.specs.declared.seat.Core.{Core}
use Rattle.parking_lot_machine_calls.specs.declared.calls.LockCall.{LockCall}
use Rattle.parking_lot_machine_calls.specs.declared.calls.LockKind.{LockKind}
use Rattle.parking_lot_machine_calls.specs.declared.seat.Hold.{Hold}
use Rattle.parking_lot_machine_calls.specs.declared.open_call.Call.{Call}
use Rattle.parking_lot_machine_calls.specs.Calls.{manner_for, takes}
use Rattle.parking_lot_machine_calls.specs.Kinds.{Manner, AsMutex, AsRw, manner_of, is_manner, is_recursive, kind_in}
use Rattle.parking_lot_machine_calls.specs.Beginnings.{core_of, holds, holds_beside, is_allowed, may_share}
use Rattle.parking_lot_machine.specs.Rows.{State, call_at, hold_at}
use Rattle.parking_lot_machine.specs.RowFits.{RulesFit}
use Rattle.parking_lot_machine_calls.specs.CallKinds.{IsOfManner}
use Rattle.parking_lot_machine.specs.ActLaws.{OwnsFor, MayBegin}
use Rattle.parking_lot_machine.specs.Machines.{may_begin, call_for}

none_is : (o : Option Call) → is_none o ≡ true → o ≡ None
none_is None h = refl
none_is (Some c) h = absurd (both_ways false refl h)

manner_is : (o : Option Manner) (m : Manner) → is_manner o m ≡ true → o ≡ Some m
manner_is None m h = absurd (both_ways false refl h)
manner_is (Some AsMutex) AsMutex h = refl
manner_is (Some AsRw) AsRw h = refl
manner_is (Some AsMutex) AsRw h = absurd (both_ways false refl h)
manner_is (Some AsRw) AsMutex h = absurd (both_ways false refl h)

core_manner : (k : LockKind) (c : LockCall) → IsOfManner (Some (manner_for c)) (core_of k c)
core_manner k LockCall.Lock = refl
core_manner k LockCall.TryLock = refl
core_manner k LockCall.LockUntil = refl
core_manner k LockCall.Unlock = refl
core_manner k LockCall.Read = refl
core_manner k LockCall.TryRead = refl
core_manner k LockCall.ReadUntil = refl
core_manner k LockCall.WriteUntil = refl
core_manner k LockCall.UpgradableUntil = refl
core_manner k LockCall.UpgradeUntil = refl
core_manner k LockCall.UnlockRead = refl
core_manner k LockCall.Write = refl
core_manner k LockCall.TryWrite = refl
core_manner k LockCall.UnlockWrite = refl
core_manner k LockCall.Downgrade = refl
core_manner k LockCall.UpgradableRead = refl
core_manner k LockCall.TryUpgradableRead = refl
core_manner k LockCall.UnlockUpgradable = refl
core_manner k LockCall.Upgrade = refl
core_manner k LockCall.TryUpgrade = refl
core_manner k LockCall.DowngradeToUpgradable = refl
core_manner k LockCall.DowngradeUpgradable = refl

refused : (A : Type 0) → false ≡ true → A
refused A h = absurd (both_ways false refl h)

-- one that may read
shares : (k : LockKind) (h : Hold) → may_share k h ≡ true
    → OwnsFor (is_recursive k) h (holds h) (Core.Rw (record { phase = RwPhase.Locking (want.Shared (is_recursive k)) }))
shares LockKind.RwRecursive (Hold.Shares n) h = (refl, refl, refl)
shares LockKind.RwRecursive Hold.Excludes h = refused _ h
shares LockKind.RwRecursive Hold.Upgrades h = refused _ h
shares LockKind.Rw (Hold.Shares zero) h = (refl, refl, refl)
shares LockKind.Rw (Hold.Shares (suc n)) h = refused _ h
shares LockKind.Rw Hold.Excludes h = refused _ h
shares LockKind.Rw Hold.Upgrades h = refused _ h
shares LockKind.Mutex (Hold.Shares zero) h = (refl, refl, refl)
shares LockKind.Mutex (Hold.Shares (suc n)) h = refused _ h
shares LockKind.Mutex Hold.Excludes h = refused _ h
shares LockKind.Mutex Hold.Upgrades h = refused _ h
shares LockKind.FairMutex (Hold.Shares zero) h = (refl, refl, refl)
shares LockKind.FairMutex (Hold.Shares (suc n)) h = refused _ h
shares LockKind.FairMutex Hold.Excludes h = refused _ h
shares LockKind.FairMutex Hold.Upgrades h = refused _ h

owns : (k : LockKind) (c : LockCall) (h : Hold) → is_allowed k h c ≡ true
    → OwnsFor (is_recursive k) h (holds_beside c h) (core_of k c)
owns k LockCall.Lock (Hold.Shares zero) h = (refl, refl, refl)
owns k LockCall.Lock (Hold.Shares (suc n)) h = refused _ h
owns k LockCall.Lock Hold.Excludes h = refused _ h
owns k LockCall.Lock Hold.Upgrades h = refused _ h
owns k LockCall.TryLock (Hold.Shares zero) h = (refl, refl, refl)
owns k LockCall.TryLock (Hold.Shares (suc n)) h = refused _ h
owns k LockCall.TryLock Hold.Excludes h = refused _ h
owns k LockCall.TryLock Hold.Upgrades h = refused _ h
owns k LockCall.LockUntil (Hold.Shares zero) h = (refl, refl, refl)
owns k LockCall.LockUntil (Hold.Shares (suc n)) h = refused _ h
owns k LockCall.LockUntil Hold.Excludes h = refused _ h
owns k LockCall.LockUntil Hold.Upgrades h = refused _ h
owns k LockCall.Unlock (Hold.Shares n) h = refused _ h
owns k LockCall.Unlock Hold.Upgrades h = refused _ h
owns k LockCall.Unlock Hold.Excludes h = (refl, refl, refl)
owns k LockCall.Read h may = shares k h may
owns k LockCall.ReadUntil h may = shares k h may
owns k LockCall.TryRead h may = let own = shares k h may in (refl, own.1, own.2)
owns k LockCall.UnlockRead (Hold.Shares zero) h = refused _ h
owns k LockCall.UnlockRead (Hold.Shares (suc n)) h = (refl, tt, ap (λ (k : ℕ). Shares k) (omega arith))
owns k LockCall.UnlockRead Hold.Excludes h = refused _ h
owns k LockCall.UnlockRead Hold.Upgrades h = refused _ h
owns k LockCall.Write (Hold.Shares zero) h = (refl, refl, refl)
owns k LockCall.WriteUntil (Hold.Shares zero) h = (refl, refl, refl)
owns k LockCall.Write (Hold.Shares (suc n)) h = refused _ h
owns k LockCall.WriteUntil (Hold.Shares (suc n)) h = refused _ h
owns k LockCall.Write Hold.Excludes h = refused _ h
owns k LockCall.WriteUntil Hold.Excludes h = refused _ h
owns k LockCall.Write Hold.Upgrades h = refused _ h
owns k LockCall.WriteUntil Hold.Upgrades h = refused _ h
owns k LockCall.TryWrite (Hold.Shares zero) h = (refl, refl, refl)
owns k LockCall.TryWrite (Hold.Shares (suc n)) h = refused _ h
owns k LockCall.TryWrite Hold.Excludes h = refused _ h
owns k LockCall.TryWrite Hold.Upgrades h = refused _ h
owns k LockCall.UnlockWrite (Hold.Shares n) h = refused _ h
owns k LockCall.UnlockWrite Hold.Upgrades h = refused _ h
owns k LockCall.UnlockWrite Hold.Excludes h = (refl, refl, refl)
owns k LockCall.Downgrade (Hold.Shares n) h = refused _ h
owns k LockCall.Downgrade Hold.Upgrades h = refused _ h
owns k LockCall.Downgrade Hold.Excludes h = (refl, tt, refl)
owns k LockCall.UpgradableRead (Hold.Shares zero) h = (refl, tt, refl, refl)
owns k LockCall.UpgradableUntil (Hold.Shares zero) h = (refl, tt, refl, refl)
owns k LockCall.UpgradableRead (Hold.Shares (suc n)) h = refused _ h
owns k LockCall.UpgradableUntil (Hold.Shares (suc n)) h = refused _ h
owns k LockCall.UpgradableRead Hold.Excludes h = refused _ h
owns k LockCall.UpgradableUntil Hold.Excludes h = refused _ h
owns k LockCall.UpgradableRead Hold.Upgrades h = refused _ h
owns k LockCall.UpgradableUntil Hold.Upgrades h = refused _ h
owns k LockCall.TryUpgradableRead (Hold.Shares zero) h = (refl, tt, refl, refl)
owns k LockCall.TryUpgradableRead (Hold.Shares (suc n)) h = refused _ h
owns k LockCall.TryUpgradableRead Hold.Excludes h = refused _ h
owns k LockCall.TryUpgradableRead Hold.Upgrades h = refused _ h
owns k LockCall.UnlockUpgradable (Hold.Shares n) h = refused _ h
owns k LockCall.UnlockUpgradable Hold.Excludes h = refused _ h
owns k LockCall.UnlockUpgradable Hold.Upgrades h = (refl, refl, refl, refl)
owns k LockCall.Upgrade (Hold.Shares n) h = refused _ h
owns k LockCall.UpgradeUntil (Hold.Shares n) h = refused _ h
owns k LockCall.Upgrade Hold.Excludes h = refused _ h
owns k LockCall.UpgradeUntil Hold.Excludes h = refused _ h
owns k LockCall.Upgrade Hold.Upgrades h = (refl, tt, refl, refl)
owns k LockCall.UpgradeUntil Hold.Upgrades h = (refl, tt, refl, refl)
owns k LockCall.TryUpgrade (Hold.Shares n) h = refused _ h
owns k LockCall.TryUpgrade Hold.Excludes h = refused _ h
owns k LockCall.TryUpgrade Hold.Upgrades h = (refl, tt, refl, refl)
owns k LockCall.DowngradeUpgradable (Hold.Shares n) h = refused _ h
owns k LockCall.DowngradeUpgradable Hold.Excludes h = refused _ h
owns k LockCall.DowngradeUpgradable Hold.Upgrades h = (refl, tt, refl, refl)
owns k LockCall.DowngradeToUpgradable (Hold.Shares n) h = refused _ h
owns k LockCall.DowngradeToUpgradable Hold.Excludes h = (refl, tt, refl, refl)
owns k LockCall.DowngradeToUpgradable Hold.Upgrades h = refused _ h

-- it has few holds beside
less : (h : Hold) → ((n : ℕ) → h ≡ Hold.Shares n → n ≤ 255) → holds h - 1 ≤ 254
less (Hold.Shares n) few = omega (arith, few n refl)
less Hold.Excludes few = omega arith
less Hold.Upgrades few = omega arith

room : (k : LockKind) (h : Hold) → may_share k h ≡ true → holds h ≤ 254
room LockKind.RwRecursive (Hold.Shares n) may = omega (arith, ltb-true n 255 may)
room LockKind.Rw (Hold.Shares zero) may = omega arith
room LockKind.Rw (Hold.Shares (suc n)) may = refused _ may
room LockKind.Mutex (Hold.Shares zero) may = omega arith
room LockKind.Mutex (Hold.Shares (suc n)) may = refused _ may
room LockKind.FairMutex (Hold.Shares zero) may = omega arith
room LockKind.FairMutex (Hold.Shares (suc n)) may = refused _ may
room k Hold.Excludes may = omega arith
room k Hold.Upgrades may = omega arith

beside : (k : LockKind) (c : LockCall) (h : Hold) → is_allowed k h c ≡ true → ((n : ℕ) → h ≡ Hold.Shares n → n ≤ 255)
    → holds_beside c h ≤ 254
beside k LockCall.Read h may few = room k h may
beside k LockCall.ReadUntil h may few = room k h may
beside k LockCall.TryRead h may few = room k h may
beside k c h may few = less h few

pub may_begins : (s : State) (t lock : ℕ) (c : LockCall) → RulesFit s → may_begin s t lock c ≡ true
    → MayBegin s t (call_for s t lock c)
may_begins s t lock c h may =
    let a = both (nat_lt t (length s.calls)) _ may in
    let b = both (is_none (call_at s t)) _ a.1 in
    let d = both (takes (slice_get s.kinds lock) c) _ b.1 in
    record {
      low = ltb-true t (length s.calls) a.0;
      free = none_is (call_at s t) b.0;
      listed = refl;
      kind = subst (λ (o : Option Manner). IsOfManner o (core_of (kind_in s.kinds lock) c))
          (sym (manner_is (manner_of (slice_get s.kinds lock)) (manner_for c) d.0))
          (core_manner (kind_in s.kinds lock) c);
      owns = owns (kind_in s.kinds lock) c (hold_at s t lock) d.1;
      beside = beside (kind_in s.kinds lock) c (hold_at s t lock) d.1 (λ n e. h.few t lock n e);
    }
