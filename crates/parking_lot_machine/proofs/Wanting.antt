-- What those want that wait in a list.
use Rattle.std.proofs.Common.{◌≡◌, ℕ, ◌*◌, inr, List, Option, Some, slice_get, sym, ap, ◌∙◌, refl, subst, arith}
use Rattle.std.proofs.lemmas.Option.{same_Some}
use Rattle.parking_lot_core_model.specs.declared.parking.FilterOp.{FilterOp}
use Rattle.parking_lot_core_model.specs.declared.parking.ParkToken.{ParkToken}
use Rattle.parking_lot_core_model.specs.declared.place.Waiter.{Waiter}
use Rattle.parking_lot_protocol.specs.RwRules as of_rw
use Rattle.parking_lot_protocol.specs.RwRules.{IsToken, mode_by, mode_of}
use Rattle.parking_lot_protocol.specs.declared.rw_phase.RwPhase.{RwPhase}
use Rattle.parking_lot_rules.specs.Roles.{Phase, Queued1, Role, Upgradable, Back, Late, Stay}
use Rattle.parking_lot_protocol_rw.specs.UpgradeRoles as of_upgrade
use Rattle.parking_lot_protocol_rw.specs.UpgradeRoles.{for_release, for_upgradable, for_upgrade}
use Rattle.parking_lot_protocol_rw.specs.declared.upgrade_phase.UpgradePhase.{UpgradePhase}
use Rattle.parking_lot_machine_calls.specs.declared.seat.QueuePosition.{QueuePosition}
use Rattle.parking_lot_machine.proofs.KindTable as KindTable
use Rattle.parking_lot_machine.proofs.RwCalls.{call_role}
use Rattle.parking_lot_rules.specs.Steps.{wants}
use Rattle.parking_lot_machine_calls.specs.Kinds.{AsRw, Manner, manner_of}
use Rattle.parking_lot_machine.specs.Passes.{ArePassed}
use Rattle.parking_lot_machine.specs.RowFits.{Awaits, FitsTogether}
use Rattle.parking_lot_machine_calls.specs.CallKinds.{IsOfManner}
use Rattle.parking_lot_machine.specs.Rows.{State, rw_lock_at, taken_by}
use Rattle.parking_lot_machine.specs.RwLaws.{WantAsTold}
use Rattle.parking_lot_machine_calls.specs.Stances.{rw_stance, seeks_stance, stance, upgrade_stance, Asleep, In, Out}
use Rattle.parking_lot_machine_calls.specs.Stances.{Stance, back_as, late_rw_stance, lying, sleeper_stance, found_as}
use Rattle.parking_lot_machine_calls.specs.declared.open_call.Call.{Call}
use Rattle.parking_lot_machine.proofs.KindTable.{RwCall, Simple, in_its_place, of_rws, rw_call, Tardy}
use Rattle.parking_lot_machine.proofs.Meeting.{in_range}
use Rattle.parking_lot_machine.proofs.RwTaking.{tokens_tell}
use Rattle.parking_lot_machine_calls.specs.declared.late_rw.LateRwPhase.{LateRwPhase}
use Rattle.parking_lot_machine_calls.specs.declared.late_rw.RwSleeper.{RwSleeper}
use Rattle.parking_lot_machine_calls.specs.LateRoles.{late_rw_role, sleeper_role, staying}

-- the same of another filter that answers the same
pub passed_as : (f g : ℕ → FilterOp) (q : List Waiter) (n : ℕ) → ((token : ℕ) → f token ≡ g token) → ArePassed f q n
    → ArePassed g q n
passed_as f g q n same passed i w low at = sym (same w.token.0) ∙ passed i w low at

-- one that waits in the first list, by its token
rw_wants : (n : ℕ) (us : List ℕ) (p : RwPhase) (token : ParkToken) → Awaits 0 token (rw_stance p) → IsToken (Some token)
    × (wants (of_rw.role n of_rw.Listed us p).does ≡ mode_by token)
rw_wants n us (RwPhase.Rests want) token e = subst (λ (x : ParkToken). IsToken (Some x) × (mode_of want ≡ mode_by x))
    e.1 (let x = tokens_tell want in (x.0, sym x.1))
rw_wants n us (RwPhase.Sleeps want) token e = subst (λ (x : ParkToken). IsToken (Some x) × (mode_of want ≡ mode_by x))
    e.1 (let x = tokens_tell want in (x.0, sym x.1))
rw_wants n us (RwPhase.DrainRests rounds) token e = absurd (omega (arith, e.0))
rw_wants n us (RwPhase.DrainSleeps rounds) token e = absurd (omega (arith, e.0))
rw_wants n us p token e = absurd e

upgrade_wants : (d : Phase) → wants (for_upgrade d) ≡ wants d
upgrade_wants (Queued1 mode stay) = refl
upgrade_wants d = refl

release_wants : (d : Phase) → wants (for_release d) ≡ wants d
release_wants (Queued1 mode stay) = refl
release_wants d = refl

seeks_want : (us : List ℕ) (q : RwPhase) (token : ParkToken) → Awaits 0 token (seeks_stance q) → IsToken (Some token)
    × (wants (for_upgradable (of_rw.does of_rw.Listed us q)) ≡ mode_by token)
seeks_want us (RwPhase.Rests want) token e = subst (λ (x : ParkToken). IsToken (Some x) × (Upgradable ≡ mode_by x)) e.1
    (inr (inr refl), refl)
seeks_want us (RwPhase.Sleeps want) token e = subst (λ (x : ParkToken). IsToken (Some x) × (Upgradable ≡ mode_by x)) e.1
    (inr (inr refl), refl)
seeks_want us (RwPhase.DrainRests rounds) token e = absurd (omega (arith, e.0))
seeks_want us (RwPhase.DrainSleeps rounds) token e = absurd (omega (arith, e.0))
seeks_want us q token e = absurd e

upgrade_want : (n : ℕ) (us : List ℕ) (p : UpgradePhase) (token : ParkToken) → Awaits 0 token (upgrade_stance p)
    → IsToken (Some token) × (wants (of_upgrade.role n of_rw.Listed us p).does ≡ mode_by token)
upgrade_want n us (UpgradePhase.Plain core) token e = rw_wants n us core.phase token e
upgrade_want n us (UpgradePhase.Seeks core) token e = seeks_want us core.phase token e
upgrade_want n us (UpgradePhase.Drains core) token e = let z = rw_wants n us core.phase token e in
    (z.0, upgrade_wants (of_rw.does of_rw.Listed us core.phase) ∙ z.1)
upgrade_want n us (UpgradePhase.Frees r core) token e = let z = rw_wants n us core.phase token e in
    (z.0, release_wants (of_rw.does of_rw.Listed us core.phase) ∙ z.1)
upgrade_want n us (UpgradePhase.Owes kept end core) token e = rw_wants n us core.phase token e
upgrade_want n us p token e = absurd e

-- one whose moment has passed wants what it wanted as it slept
staying_wants : (stay : Stay) (d : Phase) → wants (staying stay d) ≡ wants d
staying_wants stay (Queued1 mode old) = refl
staying_wants stay d = refl

lying_waits : (a : Stance) (token : ParkToken) → Awaits 0 token (lying a) → Awaits 0 token a
lying_waits (Asleep key park) token e = e
lying_waits Out token e = absurd e
lying_waits (In key how) token e = absurd e

back_waits : (a : Stance) (token : ParkToken) → Awaits 0 token (back_as a) → Awaits 0 token a
back_waits (Asleep key park) token e = e
back_waits Out token e = absurd e
back_waits (In key how) token e = absurd e

found_waits : (a : Stance) (token : ParkToken) → Awaits 0 token (found_as a) → ⊥
found_waits (Asleep key park) token e = e
found_waits Out token e = e
found_waits (In key how) token e = e

sleeper_want : (n : ℕ) (us : List ℕ) (stay : Stay) (k : RwSleeper) (token : ParkToken)
    → Awaits 0 token (sleeper_stance k) → IsToken (Some token)
    × (wants (staying stay (sleeper_role n of_rw.Listed us k).does) ≡ mode_by token)
sleeper_want n us stay (RwSleeper.Simple c) token e = let z = rw_wants n us c.phase token e in
    (z.0, staying_wants stay (of_rw.role n of_rw.Listed us c.phase).does ∙ z.1)
sleeper_want n us stay (RwSleeper.Upgradable c) token e = let z = upgrade_want n us c.phase token e in
    (z.0, staying_wants stay (of_upgrade.role n of_rw.Listed us c.phase).does ∙ z.1)

tardy_want : (n : ℕ) (us : List ℕ) (p : LateRwPhase) (token : ParkToken) → Awaits 0 token (late_rw_stance p)
    → IsToken (Some token) × (wants (late_rw_role n of_rw.Listed us p).does ≡ mode_by token)
tardy_want n us (LateRwPhase.Expires k) token e =
    sleeper_want n us Late k token (lying_waits (sleeper_stance k) token e)
tardy_want n us (LateRwPhase.Quits k) token e = sleeper_want n us Back k token (back_waits (sleeper_stance k) token e)
tardy_want n us (LateRwPhase.WasTaken k by handed) token e = absurd (found_waits (sleeper_stance k) token e)
tardy_want n us p token e = absurd e

call_want : (n : ℕ) (us : List ℕ) (k : RwCall) (token : ParkToken) → Awaits 0 token (stance (rw_call k))
    → IsToken (Some token) × (wants (call_role n QueuePosition.Listed us k).does ≡ mode_by token)
call_want n us (Simple k) token e = rw_wants n us k.phase token e
call_want n us (KindTable.Upgradable k) token e = upgrade_want n us k.phase token e
call_want n us (Tardy p) token e = tardy_want n us p token e

module _ (s : State) (h : FitsTogether s) (j : ℕ) (is : manner_of (slice_get s.kinds j) ≡ Some AsRw) where
  pub want_as_told : WantAsTold (rw_lock_at s j) (s.lot.queues (2 * j))
  want_as_told i w r at there =
      let its = h.lots.waits j 0 i w (omega arith) (ap (λ n. slice_get (s.lot.queues n) i) (omega arith) ∙ at) in
      let c : Call = its.0 in
      let k = of_rws.only c.core
      (subst (λ (o : Option Manner). IsOfManner o c.core) (ap (λ n. manner_of (slice_get s.kinds n)) its.2 ∙ is)
      (h.rules.kinds w.thread c its.1)) in
      let plays : r ≡ call_role c.others QueuePosition.Listed (taken_by s.wakes w.thread) k.0 =
      same_Some r _ (sym there
      ∙ subst (λ n. slice_get (rw_lock_at s n).roles w.thread ≡ Some
      (of_rws.plays c.others c.spot (taken_by s.wakes w.thread) k.0)) its.2
      (in_its_place of_rws s w.thread c k.0 (in_range s w.thread c its.1) its.1 k.1)
      ∙ ap (λ at. Some (of_rws.plays c.others at (taken_by s.wakes w.thread) k.0)) its.3) in
      let told = call_want c.others (taken_by s.wakes w.thread) k.0 w.token
      (subst (λ x. Awaits 0 w.token (stance x)) k.1 its.4) in
      (told.0, ap (λ (x : Role). wants x.does) plays ∙ told.1)
