-- What a call hears in a step leads it from stage to stage.
use Rattle.std.proofs.Common.{◌≡◌, inl, ℕ, Bool, true, None, refl, sym, subst}
use Rattle.parking_lot_protocol.specs.Acts.{Gives}
use Rattle.parking_lot_protocol.specs.declared.act.ActResult.{ActResult}
use Rattle.parking_lot_protocol.specs.declared.act.ActResult.TheVariants.{Entered, Start, Took}
use Rattle.parking_lot_protocol.specs.declared.mutex_phase.MutexPhase.{MutexPhase}
use Rattle.parking_lot_protocol.specs.declared.mutex_phase.MutexPhase.TheVariants as mx
use Rattle.parking_lot_machine_calls.specs.Beginnings.{core_of}
use Rattle.parking_lot_machine_calls.specs.LateCalls.{comes_late, found_as, is_back, is_sleeping, late_of}
use Rattle.parking_lot_machine_calls.specs.LateCalls.{sleeps_in_time}
use Rattle.parking_lot_machine_calls.specs.Stances.{core_act, core_next}
use Rattle.parking_lot_machine_calls.specs.declared.calls.LockCall.{LockCall}
use Rattle.parking_lot_machine_calls.specs.declared.calls.LockCall.TheVariants as call
use Rattle.parking_lot_machine_calls.specs.declared.calls.LockKind.{LockKind}
use Rattle.parking_lot_machine_calls.specs.declared.late_rw.LateRwPhase.TheVariants as late_rw
use Rattle.parking_lot_machine_calls.specs.declared.seat.Core.{Core}
use Rattle.parking_lot_machine_calls.specs.declared.seat.Core.TheVariants as core
use Rattle.parking_lot_machine_calls.specs.declared.seat.LatePhase.TheVariants as late
use Rattle.parking_lot_machine.specs.RowFits.{IsPrepared, rw_keeps}
use Rattle.parking_lot_machine.specs.CallLaws.Stages.{Leads, core_stage, quits, stage_of}
use Rattle.parking_lot_machine.proofs.CallLawsFacts.Phases.{mutex_leads, rw_leads}
use Rattle.parking_lot_machine.proofs.CallLawsFacts.Quitting.{late_leads, late_out, late_rw_leads, late_rw_out}
use Rattle.parking_lot_machine.proofs.CallLawsFacts.Upgrading.{upgrade_leads}

-- What its act gave; or its deadline has come, and it is back in the section of its list, has found that it was taken,
-- or has taken itself out.
pub data Hears (k m : Core) : Type 0 where
  Told : (word : ℕ) (s : ActResult) → Gives (core_act k) word s → m ≡ core_next k s → Hears k m
  Back : comes_late k ≡ true → m ≡ core_next k Entered → Hears k m
  Found : (by : ℕ) (handed : Bool) → comes_late k ≡ true → m ≡ found_as by handed k → Hears k m
  Out : (left : Bool) → is_back k ≡ true → m ≡ core_next k (Took None left) → Hears k m

told_leads : (recursive then : Bool) (n : ℕ) (k : Core) (word : ℕ) (s : ActResult) → IsPrepared recursive n k
    → IsPrepared then n (core_next k s) → Gives (core_act k) word s
    → Leads n (core_stage n k) (core_stage n (core_next k s))
told_leads recursive then n (core.Mutex c) word s ready after g = mutex_leads n c.phase word s g
told_leads recursive then n (core.Rw c) word s ready after g =
    rw_leads n c.phase word s g (λ e. subst (rw_keeps then n) e after.1)
told_leads recursive then n (core.Late p) word s ready after g = late_leads n p word s g
told_leads recursive then n (core.LateRw p) word s ready after g = late_rw_leads recursive then n p word s ready after g
told_leads recursive then n (core.Upgrade c) word s ready after g = upgrade_leads n c.phase word s ready.0 ready.2 g

back_leads : (n : ℕ) (k : Core) → comes_late k ≡ true → Leads n (core_stage n k) (core_stage n (core_next k Entered))
back_leads n (core.Late late.Expires) e = inl refl
back_leads n (core.LateRw (late_rw.Expires k)) e = inl refl
back_leads n k e = absurd cc

found_leads : (n : ℕ) (k : Core) (by : ℕ) (handed : Bool) → comes_late k ≡ true
    → Leads n (core_stage n k) (core_stage n (found_as by handed k))
found_leads n (core.Late late.Expires) by handed e = inl refl
found_leads n (core.LateRw (late_rw.Expires k)) by handed e = inl refl
found_leads n k by handed e = absurd cc

out_leads : (recursive : Bool) (n : ℕ) (k : Core) (left : Bool) → IsPrepared recursive n k → is_back k ≡ true
    → Leads n (core_stage n k) (core_stage n (core_next k (Took None left)))
out_leads recursive n (core.Late late.Quits) left ready e = late_out n left
out_leads recursive n (core.LateRw (late_rw.Quits k)) left ready e = late_rw_out recursive n k left ready.0 ready.1
out_leads recursive n k left ready e = absurd cc

pub heard_leads : (recursive then : Bool) (n : ℕ) (k m : Core) → IsPrepared recursive n k → IsPrepared then n m
    → Hears k m → Leads n (core_stage n k) (core_stage n m)
heard_leads recursive then n k m ready after (Told word s g e) =
    subst (λ (x : Core). Leads n (core_stage n k) (core_stage n x)) (sym e)
    (told_leads recursive then n k word s ready (subst (IsPrepared then n) e after) g)
heard_leads recursive then n k m ready after (Back late e) =
    subst (λ (x : Core). Leads n (core_stage n k) (core_stage n x)) (sym e) (back_leads n k late)
heard_leads recursive then n k m ready after (Found by handed late e) =
    subst (λ (x : Core). Leads n (core_stage n k) (core_stage n x)) (sym e) (found_leads n k by handed late)
heard_leads recursive then n k m ready after (Out left back e) =
    subst (λ (x : Core). Leads n (core_stage n k) (core_stage n x)) (sym e) (out_leads recursive n k left ready back)

-- its deadline comes
mutex_late : (n : ℕ) (p : MutexPhase) → is_sleeping p ≡ true → core_stage n (core.Late late.Expires) ≡ quits
    (core_stage n (core.Mutex (record { phase = p })))
mutex_late n mx.Sleeps e = refl
mutex_late n p e = absurd cc

pub late_quits : (n : ℕ) (k : Core) → sleeps_in_time k ≡ true → core_stage n (late_of k) ≡ quits (core_stage n k)
late_quits n (core.Mutex c) e = mutex_late n c.phase e
late_quits n (core.Rw c) e = refl
late_quits n (core.Upgrade c) e = refl
late_quits n k e = absurd cc

-- where it begins
pub begins_there : (n : ℕ) (kind : LockKind) (c : LockCall) → core_stage n (core_next (core_of kind c) Start) ≡ stage_of
    c
begins_there n kind call.Lock = refl
begins_there n kind call.TryLock = refl
begins_there n kind call.LockUntil = refl
begins_there n kind call.Unlock = refl
begins_there n kind call.Read = refl
begins_there n kind call.TryRead = refl
begins_there n kind call.UnlockRead = refl
begins_there n kind call.Write = refl
begins_there n kind call.TryWrite = refl
begins_there n kind call.UnlockWrite = refl
begins_there n kind call.Downgrade = refl
begins_there n kind call.UpgradableRead = refl
begins_there n kind call.TryUpgradableRead = refl
begins_there n kind call.UnlockUpgradable = refl
begins_there n kind call.Upgrade = refl
begins_there n kind call.TryUpgrade = refl
begins_there n kind call.DowngradeToUpgradable = refl
begins_there n kind call.DowngradeUpgradable = refl
begins_there n kind call.ReadUntil = refl
begins_there n kind call.WriteUntil = refl
begins_there n kind call.UpgradableUntil = refl
begins_there n kind call.UpgradeUntil = refl
