-- Where a call is at its end, it is over: it is answered so, and its thread owns the lock so.
use Rattle.std.proofs.Common.{◌≡◌, ℕ, ◌+◌, ◌%◌, ◌^◌, Bool, true, false, cond, Some, sym, ap, ◌∙◌}
use Rattle.std.proofs.lemmas.Option.{same_Some}
use Rattle.parking_lot_protocol.specs.RwTable as rw
use Rattle.parking_lot_protocol.specs.MutexTable as mutex
use Rattle.parking_lot_protocol.specs.declared.act.Act.{Act}
use Rattle.parking_lot_protocol.specs.declared.act.CoreAnswer.{CoreAnswer}
use Rattle.parking_lot_protocol.specs.declared.act.CoreAnswer.TheVariants.{Refused, Released}
use Rattle.parking_lot_protocol.specs.declared.mutex_phase.MutexPhase.{MutexPhase}
use Rattle.parking_lot_protocol.specs.declared.mutex_phase.MutexPhase.TheVariants as mx
use Rattle.parking_lot_protocol.specs.declared.rw_phase.AfterWake.{AfterWake}
use Rattle.parking_lot_protocol.specs.declared.rw_phase.AfterWake.TheVariants as rest
use Rattle.parking_lot_protocol.specs.declared.rw_phase.Outcome.{Outcome}
use Rattle.parking_lot_protocol.specs.declared.rw_phase.RwPhase.{RwPhase}
use Rattle.parking_lot_protocol.specs.declared.rw_phase.RwPhase.TheVariants as r
use Rattle.parking_lot_protocol_rw.specs.UpgradeRules.{IsDraining, IsFreeing, IsOwing, IsReady, IsSeeking}
use Rattle.parking_lot_protocol_rw.specs.UpgradeTable as upgrade
use Rattle.parking_lot_protocol_rw.specs.declared.upgrade_phase.Release.{Release}
use Rattle.parking_lot_protocol_rw.specs.declared.upgrade_phase.UpgradePhase.{UpgradePhase}
use Rattle.parking_lot_protocol_rw.specs.declared.upgrade_phase.UpgradePhase.TheVariants as u
use Rattle.parking_lot_machine_calls.specs.CallActs.{hold_after, mutex_hold_after, rw_hold_after, upgrade_hold_after}
use Rattle.parking_lot_machine_calls.specs.CallKinds.{IsOfWorld}
use Rattle.parking_lot_machine_calls.specs.Stances.{core_act, has_begun, late_act, late_rw_act, mutex_begun, rw_begun}
use Rattle.parking_lot_machine_calls.specs.Stances.{upgrade_begun}
use Rattle.parking_lot_machine_calls.specs.declared.calls.OwnMode.{OwnMode}
use Rattle.parking_lot_machine_calls.specs.declared.late_rw.LateRwPhase.{LateRwPhase}
use Rattle.parking_lot_machine_calls.specs.declared.late_rw.LateRwPhase.TheVariants as late_rw
use Rattle.parking_lot_machine_calls.specs.declared.seat.Core.{Core}
use Rattle.parking_lot_machine_calls.specs.declared.seat.Core.TheVariants as core
use Rattle.parking_lot_machine_calls.specs.declared.seat.Hold.{Hold}
use Rattle.parking_lot_machine_calls.specs.declared.seat.LatePhase.{LatePhase}
use Rattle.parking_lot_machine_calls.specs.declared.seat.LatePhase.TheVariants as late
use Rattle.parking_lot_machine.specs.Machines.{end_of}
use Rattle.parking_lot_machine.specs.RowFits.{IsPrepared, late_rw_prepared, rw_keeps}
use Rattle.parking_lot_machine.specs.CallLaws.Stages.{Asks, Over, core_stage, drains_stage, frees_stage, late_rw_stage}
use Rattle.parking_lot_machine.specs.CallLaws.Stages.{late_stage, mutex_stage, rw_stage, upgrade_stage}

-- one that is refused has no other hold
refused_with : (n : ℕ) (a : CoreAnswer) → n ≡ 0 → Some a ≡ Some Refused → Over Refused (Hold.Shares n) ≡ Over a
    (Hold.Shares 0)
refused_with n a none e = ap (λ k. Over Refused (Hold.Shares k)) none
    ∙ ap (λ x. Over x (Hold.Shares 0)) (sym (same_Some a Refused e))

answered_so : (a b : CoreAnswer) (h : Hold) → Some a ≡ Some b → Over b h ≡ Over a h
answered_so a b h e = ap (λ x. Over x h) (sym (same_Some a b e))

mutex_done : (n : ℕ) (p : MutexPhase) (a : CoreAnswer) → n ≡ 0 → mutex_begun p ≡ true → Some a ≡ end_of (mutex.act_of p)
    → mutex_stage n p ≡ Over a (mutex_hold_after p)
mutex_done n mx.Refuses a none begun e = refused_with n a none e
mutex_done n mx.Invalid a none begun e = refused_with n a none e
mutex_done n (mx.Ends answer) a none begun e = answered_so a answer (mutex_hold_after (mx.Ends answer)) e
mutex_done n (mx.Finishes g) a none begun e = by g.again e
  where
    by : (again : Bool) → Some a ≡ end_of (cond again Act.Load (Act.Done Released))
        → cond again (Asks OwnMode.Exclusive false) (Over Released (Hold.Shares 0)) ≡ Over a (Hold.Shares 0)
    by true e = absurd cc
    by false e = answered_so a Released (Hold.Shares 0) e
mutex_done n p a none begun e = absurd cc

last_done : (n : ℕ) (way : AfterWake) (a : CoreAnswer) → Some a ≡ end_of (rw.last_act way)
    → rw_stage n (r.Finishes way) ≡ Over a (rw_hold_after n (r.Finishes way))
last_done n rest.FreedShared a e = answered_so a _ _ e
last_done n rest.FreedExclusive a e = answered_so a _ _ e
last_done n rest.Downgraded a e = answered_so a _ _ e
last_done n way a e = absurd cc

rw_done : (recursive : Bool) (n : ℕ) (p : RwPhase) (a : CoreAnswer) → rw_keeps recursive n p → rw_begun p ≡ true
    → Some a ≡ end_of (rw.act_of p) → rw_stage n p ≡ Over a (rw_hold_after n p)
rw_done recursive n (r.Refuses want) a ready begun e = answered_so a _ _ e
rw_done recursive n (r.Finishes way) a ready begun e = last_done n way a e
rw_done recursive n (r.Ends outcome) a ready begun e = answered_so a _ _ e
rw_done recursive n r.Invalid a ready begun e = absurd ready
rw_done recursive n p a ready begun e = absurd cc

seeks_on : (p : RwPhase) (a : CoreAnswer) → IsSeeking p → Some a ≡ end_of (upgrade.seeks_act p) → ⊥
seeks_on (r.Admits s word) a ready e = by (rw.has_room word) e
  where
    by : (room : Bool) → Some a ≡ end_of (cond room (Act.Exchange word ((word + 20) % 2 ^ 64)) Act.Load) → ⊥
    by true e = cc
    by false e = cc
seeks_on (r.Loads s) a ready e = cc
seeks_on (r.Spins s) a ready e = cc
seeks_on (r.SetParked s word) a ready e = cc
seeks_on (r.Enters want woken) a ready e = cc
seeks_on (r.Checks want woken) a ready e = cc
seeks_on (r.Retreats want woken) a ready e = cc
seeks_on (r.Appends want) a ready e = cc
seeks_on (r.Rests want) a ready e = cc
seeks_on (r.Sleeps want) a ready e = cc
seeks_on p a ready e = absurd ready

drains_done : (p : RwPhase) (a : CoreAnswer) → IsDraining p → Some a ≡ end_of (rw.act_of p)
    → drains_stage p ≡ Over a Hold.Excludes
drains_done (r.Ends outcome) a ready e = answered_so a _ _ (e ∙ ap (λ (o : Outcome). Some (rw.answer_of o)) ready)
drains_done (r.DrainLoads d) a ready e = absurd cc
drains_done (r.DrainSpins d) a ready e = absurd cc
drains_done (r.DrainSetParked d word) a ready e = absurd cc
drains_done (r.DrainEnters d) a ready e = absurd cc
drains_done (r.DrainChecks d) a ready e = absurd cc
drains_done (r.DrainRetreats d) a ready e = absurd cc
drains_done (r.DrainAppends rounds) a ready e = absurd cc
drains_done (r.DrainRests rounds) a ready e = absurd cc
drains_done (r.DrainSleeps rounds) a ready e = absurd cc
drains_done p a ready e = absurd ready

frees_done : (way : Release) (p : RwPhase) (a : CoreAnswer) → IsFreeing p → Some a ≡ end_of (upgrade.frees_act way p)
    → frees_stage p ≡ Over a (Hold.Shares 0)
frees_done way (r.Finishes rest) a ready e = by (upgrade.is_again way) e
  where
    by : (again : Bool) → Some a ≡ end_of (cond again Act.Load (Act.Done Released))
        → Over Released (Hold.Shares 0) ≡ Over a (Hold.Shares 0)
    by true e = absurd cc
    by false e = answered_so a _ _ e
frees_done way (r.LooksExclusive fair rest) a ready e = absurd cc
frees_done way (r.Scans s) a ready e = absurd cc
frees_done way (r.Stores s left) a ready e = absurd cc
frees_done way (r.Leaves rest count handed) a ready e = absurd cc
frees_done way (r.Wakes rest count) a ready e = absurd cc
frees_done way p a ready e = absurd ready

owes_done : (kept : _) (answer : CoreAnswer) (p : RwPhase) (a : CoreAnswer) (h : Hold) → IsOwing p
    → Some a ≡ end_of (upgrade.owes_act kept answer p) → Over answer h ≡ Over a h
owes_done kept answer (r.Finishes rest) a h ready e = answered_so a _ _ e
owes_done kept answer r.EnterWakeSection a h ready e = absurd cc
owes_done kept answer (r.Scans s) a h ready e = absurd cc
owes_done kept answer (r.Stores s left) a h ready e = absurd cc
owes_done kept answer (r.Leaves rest count handed) a h ready e = absurd cc
owes_done kept answer (r.Wakes rest count) a h ready e = absurd cc
owes_done kept answer p a h ready e = absurd ready

upgrade_done : (n : ℕ) (p : UpgradePhase) (a : CoreAnswer) → n ≡ 0 → IsReady p → IsOfWorld p → upgrade_begun p ≡ true
    → Some a ≡ end_of (upgrade.act_of p) → upgrade_stage n p ≡ Over a (upgrade_hold_after p)
upgrade_done n (u.Plain c) a none ready world begun e = absurd world
upgrade_done n (u.Seeks c) a none ready world begun e = absurd (seeks_on c.phase a ready.0 e)
upgrade_done n (u.Drains c) a none ready world begun e = drains_done c.phase a ready.0 e
upgrade_done n (u.Frees way c) a none ready world begun e = frees_done way c.phase a ready e
upgrade_done n (u.Owes kept answer c) a none ready world begun e = owes_done kept answer c.phase a _ ready e
upgrade_done n u.Refuses a none ready world begun e = refused_with n a none e
upgrade_done n u.Invalid a none ready world begun e = refused_with n a none e
upgrade_done n (u.Ends kept answer) a none ready world begun e = answered_so a _ _ e
upgrade_done n (u.GivingUp from) a none ready world begun e = absurd world
upgrade_done n p a none ready world begun e = absurd cc

late_done : (n : ℕ) (p : LatePhase) (a : CoreAnswer) → n ≡ 0 → Some a ≡ end_of (late_act p)
    → late_stage n p ≡ Over a (Hold.Shares 0)
late_done n late.GivesUp a none e = refused_with n a none e
late_done n p a none e = absurd cc

late_rw_done : (recursive : Bool) (n : ℕ) (p : LateRwPhase) (a : CoreAnswer) → late_rw_prepared recursive n p
    → Some a ≡ end_of (late_rw_act p) → late_rw_stage n p ≡ Over a (Hold.Shares 0)
late_rw_done recursive n late_rw.GivesUp a ready e = refused_with n a ready e
late_rw_done recursive n p a ready e = absurd cc

pub core_done : (recursive : Bool) (n : ℕ) (k : Core) (a : CoreAnswer) → IsPrepared recursive n k → has_begun k ≡ true
    → Some a ≡ end_of (core_act k) → core_stage n k ≡ Over a (hold_after n k)
core_done recursive n (core.Mutex c) a ready begun e = mutex_done n c.phase a ready begun e
core_done recursive n (core.Rw c) a ready begun e = rw_done recursive n c.phase a ready.1 begun e
core_done recursive n (core.Late p) a ready begun e = late_done n p a ready e
core_done recursive n (core.LateRw p) a ready begun e = late_rw_done recursive n p a ready e
core_done recursive n (core.Upgrade c) a ready begun e = upgrade_done n c.phase a ready.0 ready.1 ready.2 begun e
