-- What the calls and holds of a machine say of its threads is what the locks of the rules say.
use Rattle.std.proofs.Common.{◌≡◌, ◌≢◌, ℕ, zero, suc, ◌<◌, ◌≤◌, ◌||◌, inl, inr, Bool, true, false, List, length, Option}
use Rattle.std.proofs.Common.{None, Some, slice_get, refl, sym, ap, ◌∙◌, arith}
use Rattle.std.specs.Prelude.{nat_lt, if◌then◌else◌}
use Rattle.std.specs.Option.{option_and_then, option_map_or}
use Rattle.std.proofs.Math.Nat.{mul-le-mul_right}
use Rattle.std.proofs.lemmas.Bool.{cases_lt}
use Rattle.std.proofs.lemmas.Option.{slice_get_past}
use Rattle.parking_lot_rules.specs.Roles.{Idle, Role}
use Rattle.parking_lot_rules.specs.Debts as rw_debts
use Rattle.parking_lot_rules.specs.Mutex as mutex
use Rattle.parking_lot_rules.specs.MutexDebts as mutex_debts
use Rattle.parking_lot_machine_calls.specs.CallViews.{IsInOrder, IsLateAsSlept, IsLateInOrder}
use Rattle.parking_lot_machine_calls.specs.Kinds.{recursive_in}
use Rattle.parking_lot_machine.specs.RowFits.{IsPrepared, late_rw_prepared}
use Rattle.parking_lot_machine_calls.specs.declared.calls.LockKind.{LockKind}
use Rattle.parking_lot_machine_calls.specs.declared.seat.Hold.{Hold}
use Rattle.parking_lot_machine_calls.specs.declared.seat.Core.{Core}
use Rattle.parking_lot_machine_calls.specs.declared.open_call.Call.{Call}
use Rattle.parking_lot_machine.specs.Rows.{State, any_lock, lock_as, call_at, cell, everybody, hold_at, lock_at}
use Rattle.parking_lot_machine.specs.Rows.{mutex_role_at, rw_role_at, taken_by}
use Rattle.parking_lot_machine_calls.specs.CallRoles.{owned_of, owns_mutex}
use Rattle.parking_lot_machine.specs.RowFits.{FitsTogether}
use Rattle.parking_lot_machine_calls.specs.CallKinds.{IsOfKind}
use Rattle.parking_lot_machine_calls.specs.CallViews.{call_in_debt, call_looks, call_mode, core_in_debt, core_mode}
use Rattle.parking_lot_machine_calls.specs.CallViews.{mutex_mode, rw_mode}
use Rattle.parking_lot_machine.specs.Worlds.{in_debt_at, is_indebted, mode_in}
use Rattle.parking_lot_machine_calls.specs.CallViews.{hold_mode}
use Rattle.parking_lot_rules.proofs.Everybody.{get-all, past}
use Rattle.parking_lot_machine.proofs.KindTable.{Simple, Upgradable, Plain, Late, Kind, of_mutexes, of_rws}
use Rattle.parking_lot_machine.proofs.KindTable.{in_its_place, Tardy}
use Rattle.parking_lot_machine.proofs.Meeting.{in_range}
use Rattle.parking_lot_machine_calls.specs.declared.late_rw.LateRwPhase.{LateRwPhase}
use Rattle.parking_lot_machine.proofs.Sleepers.{ready_sleeper}

-- one that is in no call at the lock owns what it holds
idle_rw : (h : Hold) → rw_mode (record { owns = owned_of h; does = Idle }) ≡ hold_mode (Some LockKind.Rw) h
idle_rw Hold.Excludes = refl
idle_rw Hold.Upgrades = refl
idle_rw (Hold.Shares zero) = refl
idle_rw (Hold.Shares (suc n)) = refl

idle_recursive : (h : Hold) → rw_mode (record { owns = owned_of h; does = Idle }) ≡ hold_mode
    (Some LockKind.RwRecursive) h
idle_recursive Hold.Excludes = refl
idle_recursive Hold.Upgrades = refl
idle_recursive (Hold.Shares zero) = refl
idle_recursive (Hold.Shares (suc n)) = refl

idle_nowhere : (h : Hold) → rw_mode (record { owns = owned_of h; does = Idle }) ≡ hold_mode None h
idle_nowhere Hold.Excludes = refl
idle_nowhere Hold.Upgrades = refl
idle_nowhere (Hold.Shares zero) = refl
idle_nowhere (Hold.Shares (suc n)) = refl

idle_mutex : (h : Hold) → mutex_mode (record { owns = owns_mutex h; does = mutex.Idle }) ≡ hold_mode
    (Some LockKind.Mutex) h
idle_mutex Hold.Excludes = refl
idle_mutex Hold.Upgrades = refl
idle_mutex (Hold.Shares n) = refl

idle_fair : (h : Hold) → mutex_mode (record { owns = owns_mutex h; does = mutex.Idle }) ≡ hold_mode
    (Some LockKind.FairMutex) h
idle_fair Hold.Excludes = refl
idle_fair Hold.Upgrades = refl
idle_fair (Hold.Shares n) = refl

-- the thread is in no call at lock i
abbrev pub IsApart : ℕ → Option Call → Type 0
IsApart i None = Unit {0}
IsApart i (Some c) = c.lock ≢ i

pub apart_role : {C R L : Type 0} (K : Kind C R L) (i : ℕ) (us : List ℕ) (h : Hold) (o : Option Call) → IsApart i o
    → K.role_in i us h o ≡ K.idle h
apart_role K i us h None e = K.none i us h
apart_role K i us h (Some c) e = K.away i us h c e

module _ (s : State) (t : ℕ) where
  module _ (low : t < length s.calls) where
    -- between its calls
    apart_mode : (i : ℕ) → IsApart i (call_at s t) → mode_in (lock_at s i) t ≡ hold_mode (slice_get s.kinds i)
        (hold_at s t i)
    apart_mode i apart = go (slice_get s.kinds i)
      where
        reads : option_and_then rw_mode (slice_get (everybody (rw_role_at s i) s) t) ≡ rw_mode
            (record { owns = owned_of (hold_at s t i); does = Idle })
        reads = ap (option_and_then rw_mode) (get-all (rw_role_at s i) (length s.calls) t low)
            ∙ ap rw_mode (apart_role of_rws i (taken_by s.wakes t) (hold_at s t i) (call_at s t) apart)

        locks : option_and_then mutex_mode (slice_get (everybody (mutex_role_at s i) s) t) ≡ mutex_mode
            (record { owns = owns_mutex (hold_at s t i); does = mutex.Idle })
        locks = ap (option_and_then mutex_mode) (get-all (mutex_role_at s i) (length s.calls) t low)
            ∙ ap mutex_mode (apart_role of_mutexes i (taken_by s.wakes t) (hold_at s t i) (call_at s t) apart)

        go : (k : Option LockKind) → mode_in (any_lock k s i) t ≡ hold_mode k (hold_at s t i)
        go (Some LockKind.Rw) = reads ∙ idle_rw (hold_at s t i)
        go (Some LockKind.RwRecursive) = reads ∙ idle_recursive (hold_at s t i)
        go None = reads ∙ idle_nowhere (hold_at s t i)
        go (Some LockKind.Mutex) = locks ∙ idle_mutex (hold_at s t i)
        go (Some LockKind.FairMutex) = locks ∙ idle_fair (hold_at s t i)

  -- beyond the last thread
  module _ (fit : FitsTogether s) (high : length s.calls ≤ t) where
    nothing_held : (i : ℕ) → hold_at s t i ≡ Hold.Shares 0
    nothing_held i = both_ways_in (nat_lt i (length s.kinds))
      where
        both_ways_in : (b : Bool)
            → (if b then option_map_or (λ h. h) (slice_get s.holds (cell s t i)) (Hold.Shares 0) else Hold.Shares 0)
            ≡ Hold.Shares 0
        both_ways_in true = ap (λ o. option_map_or (λ h. h) o (Hold.Shares 0))
            (slice_get_past s.holds (cell s t i)
            (omega (arith, fit.rules.size_holds, mul-le-mul_right (length s.kinds) high)))
        both_ways_in false = refl

    unowned : (i : ℕ) → mode_in (lock_at s i) t ≡ hold_mode (slice_get s.kinds i) (hold_at s t i)
    unowned i = go (slice_get s.kinds i) ∙ sym (ap (hold_mode (slice_get s.kinds i)) (nothing_held i))
      where
        go : (k : Option LockKind) → mode_in (any_lock k s i) t ≡ hold_mode k (Hold.Shares 0)
        go (Some LockKind.Rw) = ap (option_and_then rw_mode) (past (rw_role_at s i) (length s.calls) t high)
        go (Some LockKind.RwRecursive) = ap (option_and_then rw_mode) (past (rw_role_at s i) (length s.calls) t high)
        go None = ap (option_and_then rw_mode) (past (rw_role_at s i) (length s.calls) t high)
        go (Some LockKind.Mutex) = ap (option_and_then mutex_mode) (past (mutex_role_at s i) (length s.calls) t high)
        go (Some LockKind.FairMutex) = ap (option_and_then mutex_mode)
            (past (mutex_role_at s i) (length s.calls) t high)

  -- between its calls, and beyond the last thread
  pub apart_owner : FitsTogether s → (i : ℕ) → IsApart i (call_at s t)
      → mode_in (lock_at s i) t ≡ hold_mode (slice_get s.kinds i) (hold_at s t i)
  apart_owner fit i apart = elim (cases_lt t (length s.calls)) [
    | inl low ↦ apart_mode low i apart
    | inr high ↦ unowned fit high i
  ]

  module _ (fit : FitsTogether s) (c : Call) (there : call_at s t ≡ Some c) where
    -- in its call
    pub call_owns : mode_in (lock_at s c.lock) t ≡ call_mode (taken_by s.wakes t) c
    call_owns = go c.core refl (fit.rules.kinds t c there)
      where
        go : (k : Core) → c.core ≡ k → IsOfKind (slice_get s.kinds c.lock) k → mode_in (lock_at s c.lock) t ≡ call_mode
            (taken_by s.wakes t) c
        go (Core.Rw r) e of = ap (λ x. mode_in (lock_as x s c.lock) t) of
            ∙ ap (option_and_then rw_mode) (in_its_place of_rws s t c (Simple r) (in_range s t c there) there e)
            ∙ sym (ap (core_mode c.others c.spot (taken_by s.wakes t)) e)
        go (Core.Upgrade r) e of = ap (λ x. mode_in (lock_as x s c.lock) t) of
            ∙ ap (option_and_then rw_mode) (in_its_place of_rws s t c (Upgradable r) (in_range s t c there) there e)
            ∙ sym (ap (core_mode c.others c.spot (taken_by s.wakes t)) e)
        go (Core.LateRw r) e of = ap (λ x. mode_in (lock_as x s c.lock) t) of
            ∙ ap (option_and_then rw_mode) (in_its_place of_rws s t c (Tardy r) (in_range s t c there) there e)
            ∙ sym (ap (core_mode c.others c.spot (taken_by s.wakes t)) e)
        go (Core.Mutex m) e of = ap (λ x. mode_in (lock_as x s c.lock) t) of
            ∙ ap (option_and_then mutex_mode) (in_its_place of_mutexes s t c (Plain m) (in_range s t c there) there e)
            ∙ sym (ap (core_mode c.others c.spot (taken_by s.wakes t)) e)
        go (Core.Late m) e of = ap (λ x. mode_in (lock_as x s c.lock) t) of
            ∙ ap (option_and_then mutex_mode) (in_its_place of_mutexes s t c (Late m) (in_range s t c there) there e)
            ∙ sym (ap (core_mode c.others c.spot (taken_by s.wakes t)) e)

    call_owes : in_debt_at (lock_at s c.lock) t ≡ call_in_debt (taken_by s.wakes t) c
    call_owes = go c.core refl (fit.rules.kinds t c there)
      where
        go : (k : Core) → c.core ≡ k → IsOfKind (slice_get s.kinds c.lock) k
            → in_debt_at (lock_at s c.lock) t ≡ call_in_debt (taken_by s.wakes t) c
        go (Core.Rw r) e of =
            ap (λ x. in_debt_at (lock_as x s c.lock) t) of
            ∙ ap (λ o. option_map_or (λ (x : Role). rw_debts.is_in_debt x.does) o false)
            (in_its_place of_rws s t c (Simple r) (in_range s t c there) there e)
            ∙ sym (ap (core_in_debt c.others c.spot (taken_by s.wakes t)) e)
        go (Core.Upgrade r) e of =
            ap (λ x. in_debt_at (lock_as x s c.lock) t) of
            ∙ ap (λ o. option_map_or (λ (x : Role). rw_debts.is_in_debt x.does) o false)
            (in_its_place of_rws s t c (Upgradable r) (in_range s t c there) there e)
            ∙ sym (ap (core_in_debt c.others c.spot (taken_by s.wakes t)) e)
        go (Core.LateRw r) e of =
            ap (λ x. in_debt_at (lock_as x s c.lock) t) of
            ∙ ap (λ o. option_map_or (λ (x : Role). rw_debts.is_in_debt x.does) o false)
            (in_its_place of_rws s t c (Tardy r) (in_range s t c there) there e)
            ∙ sym (ap (core_in_debt c.others c.spot (taken_by s.wakes t)) e)
        go (Core.Mutex m) e of =
            ap (λ x. in_debt_at (lock_as x s c.lock) t) of
            ∙ ap (λ o. option_map_or (λ (x : mutex.Role). mutex_debts.is_in_debt x.does) o false)
            (in_its_place of_mutexes s t c (Plain m) (in_range s t c there) there e)
            ∙ sym (ap (core_in_debt c.others c.spot (taken_by s.wakes t)) e)
        go (Core.Late m) e of =
            ap (λ x. in_debt_at (lock_as x s c.lock) t) of
            ∙ ap (λ o. option_map_or (λ (x : mutex.Role). mutex_debts.is_in_debt x.does) o false)
            (in_its_place of_mutexes s t c (Late m) (in_range s t c there) there e)
            ∙ sym (ap (core_in_debt c.others c.spot (taken_by s.wakes t)) e)

    pub owing : is_indebted s t ≡ (call_looks c.core || call_in_debt (taken_by s.wakes t) c)
    owing = ap (λ o. option_map_or (λ (d : Call). call_looks d.core || in_debt_at (lock_at s d.lock) t) o false) there
        ∙ ap (λ b. call_looks c.core || b) call_owes

late_order : (recursive : Bool) (n : ℕ) (p : LateRwPhase) → late_rw_prepared recursive n p → IsLateInOrder p
late_order recursive n (LateRwPhase.Expires k) h = (h.0, ready_sleeper recursive n k h.1)
late_order recursive n (LateRwPhase.Quits k) h = (h.0, ready_sleeper recursive n k h.1)
late_order recursive n (LateRwPhase.WasTaken k by handed) h = (h.0, ready_sleeper recursive n k h.1)
late_order recursive n p h = tt

-- and one whose moment has passed slept
pub as_slept : (s : State) → FitsTogether s → (t : ℕ) (c : Call) → call_at s t ≡ Some c → IsLateAsSlept c.core
as_slept s h t c here = of_core c.core (h.rules.prepared t c here)
  where
    of_core : (x : Core) → IsPrepared (recursive_in s.kinds c.lock) c.others x → IsLateAsSlept x
    of_core (Core.LateRw q) p = late_order (recursive_in s.kinds c.lock) c.others q p
    of_core (Core.Upgrade k) p = tt
    of_core (Core.Rw k) p = tt
    of_core (Core.Mutex k) p = tt
    of_core (Core.Late k) p = tt

-- a call that a machine runs is in order
pub in_order : (s : State) → FitsTogether s → (t : ℕ) (c : Call) → call_at s t ≡ Some c → IsInOrder c.core
in_order s h t c here = of_core c.core (h.rules.prepared t c here)
  where
    of_core : (x : Core) → IsPrepared (recursive_in s.kinds c.lock) c.others x → IsInOrder x
    of_core (Core.Upgrade k) p = (p.1, p.2)
    of_core (Core.Rw k) p = tt
    of_core (Core.Mutex k) p = tt
    of_core (Core.Late k) p = tt
    of_core (Core.LateRw q) p = late_order (recursive_in s.kinds c.lock) c.others q p
