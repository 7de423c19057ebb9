use Rattle.std.proofs.Common.{◌≡◌, false, None, Some, List, remove, slice_set, sym, ap, ◌∙◌, subst, arith}
use Rattle.std.specs.List.{position_or_len}
use Rattle.std.proofs.lemmas.List.{length-set}
use Rattle.std.proofs.lemmas.Option.{slice_get_within}
use Rattle.parking_lot_core_model.specs.declared.place.Phase.{Phase}
use Rattle.parking_lot_core_model.specs.declared.place.Place.TheVariants.{Running}
use Rattle.parking_lot_core_model.specs.Machine as lot
use Rattle.parking_lot_core_model.specs.Machine.{Machine, in_phase, machine, return_fault, stored}
use Rattle.parking_lot_core_model.specs.Sound.{Sound}
use Rattle.parking_lot_machine_calls.specs.declared.open_call.Call.{Call}
use Rattle.parking_lot_machine_calls.specs.declared.seat.Wakeup.{Wakeup}
use Rattle.parking_lot_machine_calls.specs.LateCalls.{late_key}
use Rattle.parking_lot_machine.specs.Rows.{Rows, State, is_for, state}
use Rattle.parking_lot_machine.specs.RowActs.{with_call, with_lot}
use Rattle.parking_lot_machine_calls.specs.CallActs.{key_of}
use Rattle.parking_lot_machine.specs.RowFits.{FitsTogether}
use Rattle.parking_lot_machine_calls.specs.Stances.{sign}
use Rattle.parking_lot_machine.proofs.LateActs.{laws}
use Rattle.parking_lot_machine.proofs.LateCalls.{entry_there, may_return_taken, taken_there}
use Rattle.parking_lot_machine.proofs.Holding.{fits, held, low}
use Rattle.parking_lot_machine.proofs.Woken.{stands_for}
use Rattle.parking_lot_machine.specs.Rows.{open_at}
use Rattle.parking_lot_core_model.specs.declared.parking.UnparkToken.{UnparkToken}
use Rattle.parking_lot_core_model.specs.declared.place.Sleep.{Sleep}
use Rattle.parking_lot_core_model.specs.declared.place.Place.TheVariants.{Taken}
use Rattle.parking_lot_core_model.specs.Places.{place_at}
use Rattle.parking_lot_machine.proofs.row_machine.RowMachine.find.Goals as goal

pub remove-requires : goal.remove-requires
remove-requires g c =
    let t = c.args.thread in
    let ws = c.self.inside.wakes.items in
    let x = entry_there _ c.self.invariant.0 t c.args.call (held t c.args.call c.self.view_is c.requires.here) c.args.by
    c.args.said c.requires.late c.requires.off in
    omega (
      arith,
      slice_get_within ws (position_or_len (is_for t) ws) x.0 x.1,
      stands_for t c.first_for-at.ensures c.deref.ensures.value,
      c.self.inside.wakes.ok.0,
    )

pub find-requires : goal.find-requires
find-requires g c =
    let x = taken_there _ c.self.invariant.0 c.args.thread c.args.call
    (held c.args.thread c.args.call c.self.view_is c.requires.here) c.args.by c.args.said c.requires.late
    c.requires.off (ap (λ (m : Rows). open_at (state m) (late_key c.args.call)) c.self.view_is ∙ c.requires.free) in
    record {
      free = subst (λ k. return_fault (machine c.self.inside.lot) c.args.thread k ≡ None)
          (sym (c.key.ensures ∙ ap (key_of c.args.call) c.late_list.ensures))
          (may_return_taken (machine c.self.inside.lot) c.args.thread (late_key c.args.call) x.0 x.1
          (ap (λ (m : Rows). open_at (state m) (late_key c.args.call)) c.self.view_is ∙ c.requires.free) x.2);
      off = subst (λ k. (token : UnparkToken) × (sleep : Sleep)
          × (place_at (machine c.self.inside.lot).places c.args.thread ≡ Some (Taken token k sleep false)))
          (sym (c.key.ensures ∙ ap (key_of c.args.call) c.late_list.ensures)) (x.0, x.1, x.2);
    }

pub index_mut-requires : goal.index_mut-requires
index_mut-requires g c =
    omega (arith, low c.args.thread c.args.call c.self.view_is c.requires.here, c.self.inside.calls.ok.0)

pub returns : goal.returns
returns g c =
    let s : State = state c.args.self.now in
    let t = c.args.thread in
    let done : State → List Wakeup → Call → Machine → State =
    λ s ws next m. with_lot (with_call (record s { wakes = ws }) t next) m in
    let leaves : Machine → _ → Machine =
    λ m k. stored (in_phase (record (lot.returned m t k) { places = slice_set m.places t (Some Running) })
    k Phase.Ended) k (sign false) in
    let left : List Wakeup = remove s.wakes (position_or_len (is_for t) s.wakes) in
    ap (λ (m : Rows). done (state m) c.remove.new.self.items c.found.result (machine c.find.new.lot)) c.self.view_is
    ∙ ap (λ ws. done s ws c.found.result (machine c.find.new.lot))
    (c.remove.ensures.items ∙ ap (remove c.self.inside.wakes.items)
    (stands_for t c.first_for-at.ensures c.deref.ensures.value)
    ∙ ap (λ (m : Rows). remove m.wakes (position_or_len (is_for t) m.wakes)) c.self.view_is)
    ∙ ap (done s left c.found.result)
    (c.find.ensures.found ∙ ap (λ (m : Rows). leaves (machine m.lot) c.key.result) c.self.view_is
    ∙ ap (leaves s.lot) (c.key.ensures ∙ ap (key_of c.args.call) c.late_list.ensures))
    ∙ ap (λ next. done s left next (leaves s.lot (late_key c.args.call))) c.found.ensures

pub invariant_of-self : goal.invariant_of-self
invariant_of-self g c = (
  let e = returns g c in
      subst FitsTogether (sym e)
      (laws.finds (state c.args.self.now) c.args.thread c.args.call c.args.by c.args.said c.requires.late c.requires.off
      c.requires.free (subst Sound (ap (λ (s : State). s.lot) e) c.find.ensures.sound)
      (fits c.self.view_is c.self.invariant.0) c.requires.here).1.fits,
  omega (
    arith,
    length-set c.self.inside.calls.items c.args.thread (Some c.found.result),
    c.self.invariant.1,
    c.remove.ensures.capacity,
  ),
)
