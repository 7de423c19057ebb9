-- One that is to wake others is to the lock what those are that are left, and so it is once it has woken one: at a
-- reader-writer lock.
use Rattle.std.proofs.Common.{cond, ◌≡◌, ℕ, ◌-◌, Bool, true, false, List, refl}
use Rattle.std.specs.Prelude.{nat_lt}
use Rattle.parking_lot_core_model.specs.declared.place.Waiter.{Waiter}
use Rattle.parking_lot_rules.specs.Roles.{Owned, Role, Shares}
use Rattle.parking_lot_rules.specs.Roles as rules
use Rattle.parking_lot_protocol.proofs.MutexFollowing.{either}
use Rattle.parking_lot_protocol.specs.RwRules as of_rw
use Rattle.parking_lot_protocol.specs.RwTable as rw_table
use Rattle.parking_lot_protocol.specs.declared.act.Act.{Act}
use Rattle.parking_lot_protocol.specs.declared.act.CoreAnswer.{CoreAnswer}
use Rattle.parking_lot_protocol.specs.declared.act.ActResult.{ActResult}
use Rattle.parking_lot_protocol.specs.declared.act.SectionAct.TheVariants as section
use Rattle.parking_lot_protocol.specs.declared.rw_phase.AfterWake.{AfterWake}
use Rattle.parking_lot_protocol.specs.declared.rw_phase.RwPhase.{RwPhase}
use Rattle.parking_lot_protocol_rw.specs.UpgradeRoles as of_upgrade
use Rattle.parking_lot_protocol_rw.specs.UpgradeTable as upgrade_table
use Rattle.parking_lot_protocol_rw.specs.declared.upgrade_phase.Hold.{Hold}
use Rattle.parking_lot_protocol_rw.specs.declared.upgrade_phase.Release.{Release}
use Rattle.parking_lot_protocol_rw.specs.declared.upgrade_phase.UpgradePhase.{UpgradePhase}
use Rattle.parking_lot_machine_calls.specs.declared.seat.QueuePosition.{QueuePosition}
use Rattle.parking_lot_machine_calls.specs.CallRoles.{rw_spot}
use Rattle.parking_lot_machine_calls.specs.Stances.{core_act}
use Rattle.parking_lot_machine.proofs.KindTable.{RwCall, Simple, Upgradable, rw_call, rw_next, Tardy}
use Rattle.parking_lot_machine.proofs.RwCalls.{CallLearns, CallStands, CallTold, call_move, call_role, drains_wake}
use Rattle.parking_lot_machine.proofs.RwCalls.{is_wake, not_wake, seeks_wake, upgrade_wakes, UpgradeWakes, tardy_wakes}

-- It is to wake others.
pub record CallPasses (n : ℕ) (at : QueuePosition) (k : RwCall) (x : ℕ) : Type 0 where
  pub owns : Owned
  pub move : (us : List ℕ) → call_move n us k ActResult.Made ≡ of_rw.WakesOne
  pub told : CallTold k x ActResult.Made
  pub learns : (f g : List Waiter) → CallLearns k ActResult.Made f g
  pub from : (us : List ℕ) → call_role n at us k ≡ record { owns = owns; does = rules.Wakes us }
  pub to : (us : List ℕ) → call_role n at us (rw_next k ActResult.Made) ≡ record { owns = owns; does = rules.Wakes us }

simple_passes : (n : ℕ) (at : QueuePosition) (p : RwPhase) (x : ℕ) → rw_table.act_of p ≡ Act.Section section.Wake
    → CallPasses n at (Simple (record { phase = p })) x
simple_passes n at (RwPhase.Wakes rs count) x e = record {
  owns = of_rw.owned_at_last n rs;
  move = λ us. refl;
  told = tt;
  learns = λ f g. tt;
  from = λ us. refl;
  to = λ us. either (of_rw.role n (rw_spot at) us) (nat_lt 0 (count - 1)) _ _ _ refl refl;
}
simple_passes n at (RwPhase.Finishes AfterWake.FreedShared) x e = absurd cc
simple_passes n at p x e = absurd cc

frees_passes : (n : ℕ) (at : QueuePosition) (r : Release) (q : RwPhase) (x : ℕ)
    → UpgradeWakes (UpgradePhase.Frees r (record { phase = q })) → upgrade_table.frees_act r q ≡ Act.Section
    section.Wake
    → CallPasses n at (Upgradable (record { phase = UpgradePhase.Frees r (record { phase = q }) })) x
frees_passes n at r (RwPhase.Wakes rs count) x w e = record {
  owns = Shares 0;
  move = w.0 n;
  told = w.1 x;
  learns = λ f g. w.2 f;
  from = λ us. refl;
  to = λ us. either (λ (q : RwPhase). of_upgrade.role n (rw_spot at) us (UpgradePhase.Frees r (record { phase = q })))
      (nat_lt 0 (count - 1)) _ _ _ refl refl;
}
frees_passes n at r (RwPhase.Finishes rest) x w e = absurd (not_wake _ (by (upgrade_table.is_again r)) e)
  where
    by : (b : Bool) → is_wake (cond b Act.Load (Act.Done CoreAnswer.Released)) ≡ false
    by true = refl
    by false = refl
frees_passes n at r q x w e = absurd cc

owes_passes : (n : ℕ) (at : QueuePosition) (kept : Hold) (end : CoreAnswer) (q : RwPhase) (x : ℕ)
    → UpgradeWakes (UpgradePhase.Owes kept end (record { phase = q })) → upgrade_table.owes_act kept end q ≡ Act.Section
    section.Wake
    → CallPasses n at (Upgradable (record { phase = UpgradePhase.Owes kept end (record { phase = q }) })) x
owes_passes n at kept end (RwPhase.Wakes rs count) x w e = record {
  owns = of_upgrade.owned kept;
  move = w.0 n;
  told = w.1 x;
  learns = λ f g. w.2 f;
  from = λ us. refl;
  to = λ us. either (λ (q : RwPhase). of_upgrade.role n (rw_spot at) us
      (UpgradePhase.Owes kept end (record { phase = q }))) (nat_lt 0 (count - 1)) _ _ _ refl refl;
}
owes_passes n at kept end q x w e = absurd cc

upgrade_passes : (n : ℕ) (us : List ℕ) (at : QueuePosition) (p : UpgradePhase) (x : ℕ) → UpgradeWakes p
    → upgrade_table.act_of p ≡ Act.Section section.Wake → CallStands false n us (Upgradable (record { phase = p }))
    → CallPasses n at (Upgradable (record { phase = p })) x
upgrade_passes n us at (UpgradePhase.Plain core) x w e h = absurd h.1
upgrade_passes n us at (UpgradePhase.Seeks core) x w e h = absurd (not_wake _ (seeks_wake core.phase h.0.0) e)
upgrade_passes n us at (UpgradePhase.Drains core) x w e h = absurd (not_wake _ (drains_wake core.phase h.0.0) e)
upgrade_passes n us at (UpgradePhase.Frees r core) x w e h = frees_passes n at r core.phase x w e
upgrade_passes n us at (UpgradePhase.Owes kept end core) x w e h = owes_passes n at kept end core.phase x w e
upgrade_passes n us at p x w e h = absurd cc

pub call_passes : (recursive : Bool) (n : ℕ) (us : List ℕ) (at : QueuePosition) (k : RwCall) (x : ℕ)
    → CallStands recursive n us k → core_act (rw_call k) ≡ Act.Section section.Wake → CallPasses n at k x
call_passes recursive n us at (Simple k) x h e = simple_passes n at k.phase x e
call_passes recursive n us at (Upgradable k) x h e = upgrade_passes n us at k.phase x
    (upgrade_wakes us k.phase h.0 h.1 e) e h
call_passes recursive n us at (Tardy p) x h e = absurd (tardy_wakes p e)
