-- How a call leads from stage to stage whose deadline has come as it slept.
use Rattle.std.proofs.Common.{◌≡◌, inl, inr, ℕ, ◌==◌, Bool, true, false, None, refl, sym, subst}
use Rattle.parking_lot_core_model.specs.declared.parking.UnparkToken.{UnparkToken}
use Rattle.parking_lot_protocol.specs.Acts.{Gives}
use Rattle.parking_lot_protocol.specs.MutexTable as mutex
use Rattle.parking_lot_protocol.specs.RwTable as rw
use Rattle.parking_lot_protocol.specs.declared.act.ActResult.{ActResult}
use Rattle.parking_lot_protocol.specs.declared.act.ActResult.TheVariants.{Before, Made, Took, Woken}
use Rattle.parking_lot_protocol.specs.declared.mutex_phase.MutexPhase.TheVariants as mx
use Rattle.parking_lot_protocol.specs.declared.rw_phase.LockMode.{LockMode}
use Rattle.parking_lot_protocol.specs.declared.rw_phase.RwPhase.{RwPhase}
use Rattle.parking_lot_protocol.specs.declared.rw_phase.RwPhase.TheVariants as r
use Rattle.parking_lot_protocol_rw.specs.UpgradeRules.{IsDraining, IsFreeing, IsOwing, IsReady}
use Rattle.parking_lot_protocol_rw.specs.UpgradeTable as upgrade
use Rattle.parking_lot_protocol_rw.specs.declared.upgrade_phase.UpgradePhase.{UpgradePhase}
use Rattle.parking_lot_protocol_rw.specs.declared.upgrade_phase.UpgradePhase.TheVariants as u
use Rattle.parking_lot_machine_calls.specs.CallKinds.{IsOfWorld}
use Rattle.parking_lot_machine_calls.specs.Stances.{late_act, late_next, late_rw_act, late_rw_next, quits_as}
use Rattle.parking_lot_machine_calls.specs.Stances.{resumed_as, rw_asleep, sign, simple_pending, sleeper_asleep}
use Rattle.parking_lot_machine_calls.specs.Stances.{sleeper_told, upgrade_asleep, upgrade_pending}
use Rattle.parking_lot_machine_calls.specs.declared.late_rw.LateRwPhase.{LateRwPhase}
use Rattle.parking_lot_machine_calls.specs.declared.late_rw.LateRwPhase.TheVariants as late_rw
use Rattle.parking_lot_machine_calls.specs.declared.late_rw.RwSleeper.{RwSleeper}
use Rattle.parking_lot_machine_calls.specs.declared.late_rw.RwSleeper.TheVariants as sleeper
use Rattle.parking_lot_machine_calls.specs.declared.seat.LatePhase.{LatePhase}
use Rattle.parking_lot_machine_calls.specs.declared.seat.LatePhase.TheVariants as late
use Rattle.parking_lot_machine_calls.specs.declared.calls.OwnMode.TheVariants.{Exclusive}
use Rattle.parking_lot_machine.specs.RowFits.{IsPrepared, late_rw_prepared, sleeper_prepared}
use Rattle.parking_lot_machine.specs.CallLaws.Stages.{Quits, Leads, core_stage, drains_stage, late_rw_stage, late_stage}
use Rattle.parking_lot_machine.specs.CallLaws.Stages.{mode_for, mutex_stage, quits, rw_stage, sleeper_stage}
use Rattle.parking_lot_machine.specs.CallLaws.Stages.{upgrade_stage}
use Rattle.parking_lot_machine.proofs.CallLawsFacts.Phases.{leads_cond}

-- AT A MUTEX

-- it is woken: it was handed the lock, or asks on
late_woken : (n : ℕ) (token : UnparkToken)
    → Leads n (Quits Exclusive false) (mutex_stage n (mutex.next_phase mx.Sleeps (Woken token)))
late_woken n token = leads_cond n _ (mutex_stage n) (token.0 == 1) _ _ (inr refl) (inr (refl, refl))

pub late_leads : (n : ℕ) (p : LatePhase) (word : ℕ) (s : ActResult) → Gives (late_act p) word s
    → Leads n (late_stage n p) (core_stage n (late_next p s))
late_leads n late.Expires word (Woken token) g = late_woken n token
late_leads n late.Quits word (Woken token) g = inr refl
late_leads n late.Masks word (Before k) g = inl refl
late_leads n late.Leaves word Made g = inl refl
late_leads n (late.WasTaken by handed) word Made g = late_woken n (sign handed)
late_leads n p word s g = absurd g

pub late_out : (n : ℕ) (left : Bool)
    → Leads n (Quits Exclusive false) (core_stage n (late_next late.Quits (Took None left)))
late_out n left = leads_cond n _ (late_stage n) left _ _ (inr refl) (inr refl)

-- AT A READER-WRITER LOCK

quit_admits : (n : ℕ) (want : LockMode) → Leads n (Quits (mode_for want) false) (rw_stage n (rw.admits want true))
quit_admits n (LockMode.Shared recursive) = inr refl
quit_admits n LockMode.Exclusive = inr (refl, refl)

simple_woken : (n : ℕ) (p : RwPhase) (token : UnparkToken) → rw_asleep p ≡ true
    → Leads n (quits (rw_stage n p)) (rw_stage n (rw.next_phase p (Woken token)))
simple_woken n (r.Sleeps want) token e = leads_cond n _ (rw_stage n) (token.0 == 1) _ _ (quit_admits n want)
    (inr (refl, refl))
simple_woken n (r.DrainSleeps rounds) token e = inr (refl, refl)
simple_woken n p token e = absurd cc

drains_woken : (n : ℕ) (p : RwPhase) (token : UnparkToken) → rw_asleep p ≡ true → IsDraining p
    → Leads n (quits (drains_stage p)) (drains_stage (rw.next_phase p (Woken token)))
drains_woken n (r.DrainSleeps rounds) token e ready = inr (refl, refl)
drains_woken n (r.Sleeps want) token e ready = absurd ready
drains_woken n p token e ready = absurd cc

pub frees_awake : (p : RwPhase) → rw_asleep p ≡ true → IsFreeing p → ⊥
frees_awake (r.DrainSleeps rounds) e ready = ready
frees_awake (r.Sleeps want) e ready = ready
frees_awake p e ready = absurd cc

pub owes_awake : (p : RwPhase) → rw_asleep p ≡ true → IsOwing p → ⊥
owes_awake (r.DrainSleeps rounds) e ready = ready
owes_awake (r.Sleeps want) e ready = ready
owes_awake p e ready = absurd cc

upgrade_woken : (n : ℕ) (p : UpgradePhase) (token : UnparkToken) → upgrade_asleep p ≡ true → IsReady p → IsOfWorld p
    → Leads n (quits (upgrade_stage n p)) (upgrade_stage n (upgrade.next_phase p (Woken token)))
upgrade_woken n (u.Seeks c) token e ready world = leads_cond n _ (upgrade_stage n)
    (upgrade.owns_now c.phase (Woken token)) _ _ (inr refl) (inr (refl, refl))
upgrade_woken n (u.Drains c) token e ready world = drains_woken n c.phase token e ready.0
upgrade_woken n (u.Frees way c) token e ready world = absurd (frees_awake c.phase e ready)
upgrade_woken n (u.Owes kept answer c) token e ready world = absurd (owes_awake c.phase e ready)
upgrade_woken n (u.Plain c) token e ready world = absurd world
upgrade_woken n p token e ready world = absurd cc

sleeper_woken : (recursive : Bool) (n : ℕ) (k : RwSleeper) (token : UnparkToken) → sleeper_asleep k ≡ true
    → sleeper_prepared recursive n k → Leads n (quits (sleeper_stage n k)) (core_stage n (sleeper_told k (Woken token)))
sleeper_woken recursive n (sleeper.Simple c) token e ready = simple_woken n c.phase token e
sleeper_woken recursive n (sleeper.Upgradable c) token e ready = upgrade_woken n c.phase token e ready.1 ready.2

late_rw_resumed : (recursive : Bool) (n : ℕ) (k : RwSleeper) (handed : Bool) → sleeper_asleep k ≡ true
    → sleeper_prepared recursive n k
    → Leads n (quits (sleeper_stage n k)) (core_stage n (resumed_as (sleeper_asleep k) k handed))
late_rw_resumed recursive n k handed e ready =
    subst (λ (b : Bool). Leads n (quits (sleeper_stage n k)) (core_stage n (resumed_as b k handed))) (sym e)
    (sleeper_woken recursive n k (sign handed) e ready)

pub late_rw_leads : (recursive then : Bool) (n : ℕ) (p : LateRwPhase) (word : ℕ) (s : ActResult)
    → late_rw_prepared recursive n p → IsPrepared then n (late_rw_next p s) → Gives (late_rw_act p) word s
    → Leads n (late_rw_stage n p) (core_stage n (late_rw_next p s))
late_rw_leads recursive then n (late_rw.Expires k) word (Woken token) ready after g = sleeper_woken recursive n k token
    ready.0 ready.1
late_rw_leads recursive then n (late_rw.Quits k) word (Woken token) ready after g = absurd after.1
late_rw_leads recursive then n late_rw.Masks word (Before k) ready after g = inl refl
late_rw_leads recursive then n late_rw.Leaves word Made ready after g = inl refl
late_rw_leads recursive then n (late_rw.LeavesPending from) word Made ready after g = inl refl
late_rw_leads recursive then n (late_rw.WasTaken k by handed) word Made ready after g =
    late_rw_resumed recursive n k handed ready.0 ready.1
late_rw_leads recursive then n p word s ready after g = absurd g

-- it takes itself out of its list
simple_out : (n : ℕ) (p : RwPhase) (left : Bool) → rw_asleep p ≡ true
    → Leads n (quits (rw_stage n p)) (late_rw_stage n (quits_as (simple_pending p) left))
simple_out n (r.Sleeps want) left e = leads_cond n _ (late_rw_stage n) left _ _ (inr refl) (inr refl)
simple_out n (r.DrainSleeps rounds) left e = inl refl
simple_out n p left e = absurd cc

drains_out : (n : ℕ) (p : RwPhase) (left : Bool) → rw_asleep p ≡ true → IsDraining p
    → Leads n (quits (drains_stage p)) (late_rw_stage n (late_rw.LeavesPending true))
drains_out n (r.DrainSleeps rounds) left e ready = inl refl
drains_out n (r.Sleeps want) left e ready = absurd ready
drains_out n p left e ready = absurd cc

upgrade_out : (n : ℕ) (p : UpgradePhase) (left : Bool) → upgrade_asleep p ≡ true → IsReady p → IsOfWorld p
    → Leads n (quits (upgrade_stage n p)) (late_rw_stage n (quits_as (upgrade_pending p) left))
upgrade_out n (u.Seeks c) left e ready world = leads_cond n _ (late_rw_stage n) left _ _ (inr refl) (inr refl)
upgrade_out n (u.Drains c) left e ready world = drains_out n c.phase left e ready.0
upgrade_out n (u.Frees way c) left e ready world = absurd (frees_awake c.phase e ready)
upgrade_out n (u.Owes kept answer c) left e ready world = absurd (owes_awake c.phase e ready)
upgrade_out n (u.Plain c) left e ready world = absurd world
upgrade_out n p left e ready world = absurd cc

pub late_rw_out : (recursive : Bool) (n : ℕ) (k : RwSleeper) (left : Bool) → sleeper_asleep k ≡ true
    → sleeper_prepared recursive n k
    → Leads n (quits (sleeper_stage n k)) (core_stage n (late_rw_next (late_rw.Quits k) (Took None left)))
late_rw_out recursive n (sleeper.Simple c) left e ready = simple_out n c.phase left e
late_rw_out recursive n (sleeper.Upgradable c) left e ready = upgrade_out n c.phase left e ready.1 ready.2
