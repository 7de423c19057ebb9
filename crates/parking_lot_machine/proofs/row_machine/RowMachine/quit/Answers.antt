use Rattle.parking_lot_machine.proofs.Calling.{room_set}
use Rattle.std.proofs.Common.{◌≡◌, ◌||◌, Bool, false, cond, Some, sym, ap, ◌∙◌, subst, arith}
use Rattle.parking_lot_core_model.specs.declared.place.Phase.TheVariants as phase
use Rattle.parking_lot_core_model.specs.declared.place.Place.TheVariants.{Waiting}
use Rattle.parking_lot_core_model.specs.declared.place.Sleep.{Sleep}
use Rattle.parking_lot_core_model.specs.Machine.{Machine, given_up, in_phase, machine, stored}
use Rattle.parking_lot_core_model.specs.Places.{place_at}
use Rattle.parking_lot_core_model.specs.Results.{is_left}
use Rattle.parking_lot_core_model.specs.Sound.{Sound}
use Rattle.parking_lot_machine_calls.specs.declared.open_call.Call.{Call}
use Rattle.parking_lot_machine.specs.LateActs.{quitted_as}
use Rattle.parking_lot_machine_calls.specs.LateCalls.{is_pending, late_key}
use Rattle.parking_lot_machine.specs.Rows.{Rows, State, state}
use Rattle.parking_lot_machine.specs.RowActs.{with_call, with_lot}
use Rattle.parking_lot_machine_calls.specs.CallActs.{key_of}
use Rattle.parking_lot_machine.specs.RowFits.{FitsTogether}
use Rattle.parking_lot_machine_calls.specs.Stances.{sign}
use Rattle.parking_lot_machine.proofs.LateActs.{laws}
use Rattle.parking_lot_machine.proofs.LateCalls.{may_quit, stands_there}
use Rattle.parking_lot_machine.proofs.Holding.{fits, held, low}
use Rattle.parking_lot_core_model.specs.Machine as lot
use Rattle.parking_lot_core_model.specs.declared.place.Section.{Section}
use Rattle.parking_lot_machine.proofs.row_machine.RowMachine.quit.Goals as goal

pub quit-left-requires : goal.quit-left-requires
quit-left-requires g c =
    let at = stands_there _ c.self.invariant.0 c.args.thread c.args.call
    (held c.args.thread c.args.call c.self.view_is c.requires.here) c.requires.late in
    record {
      there = may_quit (machine c.self.inside.lot) c.args.thread (late_key c.args.call) at.0 at.1 at.2 at.4 at.5;
      waits = subst (λ k. (sleep : Sleep)
          × (place_at (machine c.self.inside.lot).places c.args.thread ≡ Some (Waiting k sleep)))
          (sym (c.key-key.ensures ∙ ap (key_of c.args.call) c.late_list.ensures)) (at.5.0, at.5.1);
      inside = subst (λ k. (o : Section) × ((machine c.self.inside.lot).inside c.args.thread ≡ Some k)
          × (lot.open_at (machine c.self.inside.lot) k ≡ Some o) × (o.key ≡ k))
          (sym (c.key-key.ensures ∙ ap (key_of c.args.call) c.late_list.ensures)) (at.0, at.1, at.2, at.3);
    }

pub index_mut-requires : goal.index_mut-requires
index_mut-requires g c =
    omega (arith, low c.args.thread c.args.call c.self.view_is c.requires.here, c.self.inside.calls.ok.0)

pub returns : goal.returns
returns g c =
    let s : State = state c.args.self.now in
    let done : State → Call → Machine → State = λ s next m. with_lot (with_call s c.args.thread next) m in
    let out : Machine → _ → Machine = λ m k. in_phase (given_up m c.args.thread k) k phase.Ended in
    let left : Machine → _ → Bool → Bool → Machine =
    λ m k b p. cond (b || p) (stored (out m k) k (sign false)) (out m k)
    in
    let p : Bool = is_pending c.args.call.core in
    let is_key = c.key-key.ensures ∙ ap (key_of c.args.call) c.late_list.ensures in
    ap (λ (m : Rows). done (state m) c.told.result (machine c.quit-left.new.lot)) c.self.view_is
    ∙ ap (done s c.told.result)
    (c.quit-left.ensures.out
    ∙ ap (λ (m : Rows). left (machine m.lot) c.key-key.result c.quit-left.result c.is_pending.result) c.self.view_is
    ∙ ap (λ k. left s.lot k c.quit-left.result c.is_pending.result) is_key
    ∙ ap (left s.lot (late_key c.args.call) c.quit-left.result) c.is_pending.ensures)
    ∙ ap (λ next. done s next (left s.lot (late_key c.args.call) c.quit-left.result p)) c.told.ensures
    ∙ ap (quitted_as s c.args.thread c.args.call)
    (c.quit-left.ensures.left
    ∙ ap (λ (m : Rows). is_left ((out (machine m.lot) c.key-key.result).queues c.key-key.result)) c.self.view_is
    ∙ ap (λ k. is_left ((out s.lot k).queues k)) is_key)

pub invariant_of-self : goal.invariant_of-self
invariant_of-self g c = (
  let e = returns g c in
      subst FitsTogether (sym e)
      (laws.quits (state c.args.self.now) c.args.thread c.args.call c.requires.late
      (subst Sound (ap (λ (s : State). s.lot) e) c.quit-left.ensures.sound) (fits c.self.view_is c.self.invariant.0)
      c.requires.here).1.fits,
  room_set _ _ _ _ c.self.invariant.1,
)
