use Rattle.std.proofs.Common.{◌≡◌, ℕ, Some, remove, slice_get, slice_set, sym, ap, ◌∙◌, subst, arith}
use Rattle.std.proofs.lemmas.List.{length-set}
use Rattle.std.proofs.lemmas.Option.{slice_get_within}
use Rattle.std.specs.List.{position_or_len}
use Rattle.std.specs.Option.{option_map, option_and_then}
use Rattle.parking_lot_core_model.specs.Machine.{machine}
use Rattle.parking_lot_core_model.specs.Places.{place_at}
use Rattle.parking_lot_core_model.specs.Sound.{Sound}
use Rattle.parking_lot_machine_calls.specs.declared.seat.Wakeup.{Wakeup}
use Rattle.parking_lot_machine.specs.Rows.{Rows, State, state, is_by, call_at}
use Rattle.parking_lot_machine.specs.RowFits.{FitsTogether}
use Rattle.parking_lot_machine.proofs.Holding.{fits, held, low}
use Rattle.parking_lot_machine.proofs.Calling.{slot}
use Rattle.parking_lot_machine.proofs.TellActs.{laws}
use Rattle.parking_lot_machine.proofs.Woken.{some_in, stands, is_first, woken_call, is_woken, woken_from}
use Rattle.parking_lot_machine.proofs.row_machine.RowMachine.wake_first.Goals as goal

pub remove-wakeup-requires : goal.remove-wakeup-requires
remove-wakeup-requires g c =
    let t : ℕ = c.args.thread in
    let due = laws.due _ t c.args.call c.requires.asked c.self.invariant.0
    (held t c.args.call c.self.view_is c.requires.here) (some_in t c.self.view_is c.requires.some) in
    omega (
      arith,
      slice_get_within c.self.inside.wakes.items (position_or_len (is_by t) c.self.inside.wakes.items) due.0
          due.3.first,
      stands t c.first_by-at.ensures c.deref.ensures.value,
      c.self.inside.wakes.ok.0,
    )

pub rouse-token-requires : goal.rouse-token-requires
rouse-token-requires g c =
    let t : ℕ = c.args.thread in
    let due = laws.due _ t c.args.call c.requires.asked c.self.invariant.0
    (held t c.args.call c.self.view_is c.requires.here) (some_in t c.self.view_is c.requires.some) in
    let same = is_first c.self.inside.wakes.items t c.first_by-at.result due.0 c.remove-wakeup.result
    (stands t c.first_by-at.ensures c.deref.ensures.value) c.remove-wakeup.ensures.value due.3.first in
    record {
      told = (
        due.2,
        due.3.key,
        due.3.sleep,
        ap (λ (e : Wakeup). place_at c.self.inside.lot.places e.thread) same
            ∙ due.3.place,
        due.3.late,
        due.5 ∙ ap (λ (e : Wakeup). e.mark) (sym same),
      );
    }

pub index_mut-requires : goal.index_mut-requires
index_mut-requires g c =
    let t : ℕ = c.args.thread in
    let due = laws.due _ t c.args.call c.requires.asked c.self.invariant.0
    (held t c.args.call c.self.view_is c.requires.here) (some_in t c.self.view_is c.requires.some) in
    let same = is_first c.self.inside.wakes.items t c.first_by-at.result due.0 c.remove-wakeup.result
    (stands t c.first_by-at.ensures c.deref.ensures.value) c.remove-wakeup.ensures.value due.3.first in
    omega (
      arith,
      slice_get_within c.self.inside.calls.items due.0.thread (Some due.1)
          (slot c.self.inside.calls.items due.0.thread due.1 due.3.there),
      ap (λ (e : Wakeup). e.thread) same,
      c.self.inside.calls.ok.0,
    )

pub index_mut-requires-2 : goal.index_mut-requires-2
index_mut-requires-2 g c =
    omega (arith, low c.args.thread c.args.call c.self.view_is c.requires.here, c.self.inside.calls.ok.0)

pub returns : goal.returns
returns g c =
    let t : ℕ = c.args.thread in
    let m : Rows = record {
      kinds = c.self.inside.kinds.items;
      words = c.self.inside.words.items;
      holds = c.self.inside.holds.items;
      calls = c.self.inside.calls.items;
      wakes = c.self.inside.wakes.items;
      lot = c.self.inside.lot;
    } in
    let s : State = state m in
    let due = laws.due s t c.args.call c.requires.asked c.self.invariant.0
    (held t c.args.call c.self.view_is c.requires.here) (some_in t c.self.view_is c.requires.some) in
    let at = stands t c.first_by-at.ensures c.deref.ensures.value in
    let same = is_first s.wakes t c.first_by-at.result due.0 c.remove-wakeup.result at c.remove-wakeup.ensures.value
    due.3.first in
    let v : c.remove-wakeup.result.thread ≡ due.0.thread = ap (λ (e : Wakeup). e.thread) same in
    let token = c.rouse-token.ensures.token due.2 due.3.key due.3.sleep (ap (place_at s.lot.places) v ∙ due.3.place) in
    let sleeper = c.call_in-sleeper.ensures
    ∙ ap (λ calls. option_and_then (λ x. x) (slice_get calls c.remove-wakeup.result.thread)) c.deref-2.ensures.value
    ∙ ap (call_at s) v ∙ due.3.there in
    let woken : c.woken.result ≡ Some (woken_call due.2 due.1) = c.woken.ensures
    ∙ ap (option_map (woken_call c.rouse-token.result)) sleeper ∙ ap (λ k. Some (woken_call k due.1)) token in
    woken_from t c.args.call _ c.self.view_is
    (is_woken s t c.args.call due.0 due.1 due.2 due.3 c.remove-wakeup.result.thread c.woken.result c.told.result
    c.remove-wakeup.new.self.items (machine c.rouse-token.new.lot)
    v woken c.told.ensures (c.remove-wakeup.ensures.items ∙ ap (remove s.wakes) at) c.rouse-token.ensures.runs)

pub invariant_of-self : goal.invariant_of-self
invariant_of-self g c =
    let e = returns g c in
    let v : ℕ = c.remove-wakeup.result.thread in (
      subst FitsTogether (sym e.4)
          (laws.wake (state c.args.self.now) c.args.thread c.args.call e.0 e.1 e.2 c.requires.asked e.3
          (subst Sound (ap (λ (s : State). s.lot) e.4) c.rouse-token.ensures.sound)
          (fits c.self.view_is c.self.invariant.0) c.requires.here).1.fits,
      omega (
        arith,
        length-set c.self.inside.calls.items v c.woken.result,
        length-set (slice_set c.self.inside.calls.items v c.woken.result) c.args.thread (Some c.told.result),
        c.self.invariant.1,
        c.remove-wakeup.ensures.capacity,
      ),
    )
