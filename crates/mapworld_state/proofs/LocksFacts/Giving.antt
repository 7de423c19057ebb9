-- How a call with a deadline gives up: the cores that it goes through behind the deadline, and what its thread holds
-- meanwhile.
use Rattle.std.proofs.Common.{◌≡◌, ◌+◌, ℕ, Bool, true, false, List, Option, refl, sym, ap, subst}
use Rattle.parking_lot_core_model.specs.declared.parking.ParkToken.{ParkToken}
use Rattle.parking_lot_protocol.specs.RwRules as of_rw
use Rattle.parking_lot_protocol.specs.declared.rw_phase.RwPhase.{RwPhase}
use Rattle.parking_lot_protocol_rw.specs.UpgradeRoles as of_upgrade
use Rattle.parking_lot_protocol_rw.specs.UpgradeRules.{IsOwing, IsReady}
use Rattle.parking_lot_protocol_rw.specs.declared.upgrade_phase.Hold.{Hold as Kept}
use Rattle.parking_lot_protocol_rw.specs.declared.upgrade_phase.UpgradePhase.{UpgradePhase}
use Rattle.parking_lot_rules.specs.Classes.{Readers, done, owned, weight}
use Rattle.parking_lot_rules.specs.Owners.{Owner, owner_of, stand_of}
use Rattle.parking_lot_rules.specs.Roles as rules
use Rattle.parking_lot_rules.specs.Roles.{Handed, Normal, Open, Owned, Phase, Role, Stay}
use Rattle.parking_lot_machine.specs.CallLaws.Stages as stage
use Rattle.parking_lot_machine.specs.CallLaws.Stages.{Over, Stage, late_rw_stage, quits, rw_stage, upgrade_stage}
use Rattle.parking_lot_machine.specs.RowFits.{late_rw_prepared}
use Rattle.parking_lot_machine_calls.specs.CallViews.{mode_of, rw_mode}
use Rattle.parking_lot_machine_calls.specs.LateRoles.{late_rw_role, staying, stays}
use Rattle.parking_lot_machine_calls.specs.Stances.{Asleep, Stance, back_as, found_as}
use Rattle.parking_lot_machine_calls.specs.Stances.{rw_asleep, rw_stance, upgrade_asleep}
use Rattle.parking_lot_machine_calls.specs.declared.calls.OwnMode.{OwnMode}
use Rattle.parking_lot_machine_calls.specs.declared.late_rw.LateRwPhase.{LateRwPhase}
use Rattle.parking_lot_machine_calls.specs.declared.late_rw.RwSleeper.{RwSleeper}
use Rattle.lock_api_desk.specs.declared.mode.Mode.{Mode}
use Rattle.mapworld_state.specs.Locks.Fits.{late_plainly, yields_plainly}
use Rattle.mapworld_state.specs.Locks.Views.{held_as}
use Rattle.mapworld_state.proofs.LocksFacts.Within.{WithinAt, within}
use Rattle.parking_lot_protocol.specs.MutexRules.{mark_of}

-- WHERE ONE STANDS THAT WAITS SAYS NOTHING OF WHAT IT OWNS

pub stay_owner : (stay : Stay) (o : Owned) (d : Phase) → owner_of o (staying stay d) ≡ owner_of o d
stay_owner stay o (rules.Queued1 mode old) = refl
stay_owner stay o (rules.Taken1 mode by Open old) = refl
stay_owner stay o (rules.Taken1 mode by Normal old) = refl
stay_owner stay o (rules.Taken1 mode by Handed old) = refl
stay_owner stay o (rules.Queued2 from old) = refl
stay_owner stay o (rules.Taken2 from by old) = refl
stay_owner stay o d = refl

pub stay_stand : (stay : Stay) (d : Phase) → stand_of (staying stay d) ≡ stand_of d
stay_stand stay (rules.Queued1 mode old) = refl
stay_stand stay (rules.Taken1 mode by Open old) = refl
stay_stand stay (rules.Taken1 mode by Normal old) = refl
stay_stand stay (rules.Taken1 mode by Handed old) = refl
stay_stand stay (rules.Queued2 from old) = refl
stay_stand stay (rules.Taken2 from by old) = refl
stay_stand stay d = refl

-- what is so of it where it asks is so where it gives up
quits_at : (a : Stage) (o : Option Mode) → WithinAt a o → WithinAt (quits a) o
quits_at (stage.Asks OwnMode.Shared from) o w = w
quits_at (stage.Asks OwnMode.Exclusive from) o w = w
quits_at (stage.Asks OwnMode.Upgradable from) o w = w
quits_at (stage.Asks OwnMode.Pending from) o w = w
quits_at (stage.Tries mode from) o w = w
quits_at (stage.Quits mode from) o w = w
quits_at (stage.Frees all) o w = w
quits_at (stage.Turns mode) o w = w
quits_at (Over answer hold) o w = w

valid : (p : RwPhase) → rw_asleep p ≡ true → p ≡ RwPhase.Invalid → ⊥
valid (RwPhase.Sleeps want) e is = cc
valid (RwPhase.DrainSleeps rounds) e is = cc
valid p e is = absurd cc

late_sleeps : (stay : Stay) (at : of_rw.QueuePosition) (us : List ℕ) (p : RwPhase) → rw_asleep p ≡ true
    → of_rw.IsReady p → WithinAt (quits (rw_stage 0 p)) (held_as (rw_mode (stays stay (of_rw.role 0 at us p))))
late_sleeps stay at us p asleep ready =
    subst (WithinAt (quits (rw_stage 0 p)))
    (ap (λ w. held_as (mode_of w)) (sym (stay_owner stay (of_rw.owns 0 p) (of_rw.does at us p))))
    (quits_at (rw_stage 0 p) _ (within at us p ready (λ is. absurd (valid p asleep is))))

pub late_within : (recursive : Bool) (at : of_rw.QueuePosition) (us : List ℕ) (p : LateRwPhase) → late_plainly p ≡ true
    → late_rw_prepared recursive 0 p → WithinAt (late_rw_stage 0 p) (held_as (rw_mode (late_rw_role 0 at us p)))
late_within recursive at us (LateRwPhase.Expires (RwSleeper.Simple k)) so (asleep, (ready, keeps)) =
    late_sleeps rules.Late at us k.phase asleep ready
late_within recursive at us (LateRwPhase.Quits (RwSleeper.Simple k)) so (asleep, (ready, keeps)) =
    late_sleeps rules.Back of_rw.Listed us k.phase asleep ready
late_within recursive at us (LateRwPhase.WasTaken (RwSleeper.Simple k) by handed) so (asleep, (ready, keeps)) =
    late_sleeps rules.Back (of_rw.Off by (mark_of handed)) us k.phase asleep ready
late_within recursive at us LateRwPhase.Masks so ready = refl
late_within recursive at us LateRwPhase.Leaves so ready = refl
late_within recursive at us LateRwPhase.GivesUp so ready = refl
late_within recursive at us (LateRwPhase.LeavesPending false) so ready = refl
late_within recursive at us p so ready = absurd cc

-- ONE THAT OWES WAITERS A LOOK

owes_nothing : (at : of_rw.QueuePosition) (us : List ℕ) (p : RwPhase) → IsOwing p
    → owner_of (rules.Shares 0) (of_rw.does at us p) ≡ Owner.Reading 0
owes_nothing at us RwPhase.EnterWakeSection ready = refl
owes_nothing at us (RwPhase.Scans s) ready =
    ap (λ r. owner_of (rules.Shares 0) (rules.Scans1 (of_rw.cause_of r) s.shared s.upgradable s.writer us)) ready
owes_nothing at us (RwPhase.Stores s left) ready =
    ap (λ r. owner_of (rules.Shares 0) (rules.Scans1 (of_rw.cause_of r) s.shared s.upgradable s.writer us)) ready
owes_nothing at us (RwPhase.Leaves rest count handed) ready = refl
owes_nothing at us (RwPhase.Wakes rest count) ready = refl
owes_nothing at us (RwPhase.Finishes rest) ready = refl
owes_nothing at us p ready = absurd ready

pub yields_within : (at : of_rw.QueuePosition) (us : List ℕ) (p : UpgradePhase) → yields_plainly p ≡ true → IsReady p
    → WithinAt (upgrade_stage 0 p) (held_as (rw_mode (of_upgrade.role 0 at us p)))
yields_within at us (UpgradePhase.YieldLoads false) so ready = refl
yields_within at us (UpgradePhase.Yields false word) so ready = refl
yields_within at us (UpgradePhase.Owes Kept.Nothing answer core) so ready =
    ap (λ w. held_as (mode_of w)) (owes_nothing at us core.phase ready)
yields_within at us (UpgradePhase.Ends Kept.Nothing answer) so ready = refl
yields_within at us UpgradePhase.Invalid so ready = refl
yields_within at us p so ready = absurd cc

owing_awake : (p : RwPhase) → IsOwing p → rw_asleep p ≡ false
owing_awake (RwPhase.Sleeps want) ready = absurd ready
owing_awake (RwPhase.DrainSleeps rounds) ready = absurd ready
owing_awake p ready = refl

-- one that gives up as a pending writer doesn't sleep
pub yields_awake : (p : UpgradePhase) → yields_plainly p ≡ true → IsReady p → upgrade_asleep p ≡ false
yields_awake (UpgradePhase.YieldLoads false) so ready = refl
yields_awake (UpgradePhase.Yields false word) so ready = refl
yields_awake (UpgradePhase.Owes Kept.Nothing answer core) so ready = owing_awake core.phase ready
yields_awake (UpgradePhase.Ends Kept.Nothing answer) so ready = refl
yields_awake UpgradePhase.Invalid so ready = refl
yields_awake p so ready = absurd cc

-- WHERE IT IS ASLEEP TO THE LOT

pub owing_up : (p : RwPhase) (key : ℕ) (token : ParkToken) → IsOwing p → rw_stance p ≡ Asleep key token → ⊥
owing_up (RwPhase.Sleeps want) key token ready e = ready
owing_up (RwPhase.DrainSleeps rounds) key token ready e = ready
owing_up p key token ready e = cc

pub back_up : (a : Stance) (key : ℕ) (token : ParkToken) → back_as a ≡ Asleep key token → ⊥
back_up (Asleep k park) key token e = cc
back_up a key token e = cc

pub found_up : (a : Stance) (key : ℕ) (token : ParkToken) → found_as a ≡ Asleep key token → ⊥
found_up (Asleep k park) key token e = cc
found_up a key token e = cc

-- NOBODY READS TWICE

stay_done : (stay : Stay) (d : Phase) → done Readers (staying stay d) ≡ done Readers d
stay_done stay (rules.Queued1 mode old) = refl
stay_done stay (rules.Taken1 mode by how old) = refl
stay_done stay (rules.Queued2 from old) = refl
stay_done stay (rules.Taken2 from by old) = refl
stay_done stay d = refl

pub stay_weight : (stay : Stay) (r : Role) → weight Readers (stays stay r) ≡ weight Readers r
unfolding weight
stay_weight stay r = ap (λ n. owned Readers r.owns + n) (stay_done stay r.does)
