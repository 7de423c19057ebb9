use Rattle.std.proofs.Common.{◌≡◌, Some, nat_lt, slice_set, sym, ap, ◌∙◌, subst, false, arith}
use Rattle.std.specs.Option.{option_map_or}
use Rattle.std.specs.Prelude.{length, vec_len}
use Rattle.parking_lot_machine_sides.specs.Condvar.Calls.{OpenCall}
use Rattle.parking_lot_machine_sides.specs.Condvar.Fitting.{Fits}
use Rattle.parking_lot_machine_sides.specs.Condvar.Machines.{State}
use Rattle.parking_lot_machine_sides.specs.Condvar.Outsides.{heard, may_hear, told_by}
use Rattle.parking_lot_machine_sides.specs.Condvar.Steps.{IsTold}
use Rattle.parking_lot_machine_sides.proofs.CondvarFacts.Slots.{room_set}
use Rattle.parking_lot_machine_sides.proofs.CondvarFacts.Stepping.{told_made, told_so}
use Rattle.parking_lot_machine_sides.proofs.condvar.condvar_machine.CondvarMachine.tell.Goals as goal

pub returns-in-Some : goal.returns-in-Some
returns-in-Some g c =
    let m : State = record {
      word = c.self.inside.word;
      calls = c.self.inside.calls.items;
      queue = c.self.inside.queue.items;
      inside = c.self.inside.inside;
      beside = c.self.inside.beside;
    } in
    let now = c.args.self.now in
    let call = c.in-Some.call in
    let here = sym c.call.ensures ∙ c.in-Some.is in
    let counted : vec_len c.self.inside.queue ≡ length c.self.inside.queue.items =
    omega (arith, c.self.inside.queue.ok.0) in
    subst (IsTold c.args.thread c.args.seen now)
    (sym (ap (λ (d : OpenCall). record m { calls = slice_set m.calls c.args.thread (Some d) })
    (c.told.ensures ∙ ap (λ n. told_by call (nat_lt 0 n) c.args.seen call.core) (c.len-left.ensures ∙ counted))
    ∙ ap (λ (x : State). heard x c.args.thread call c.args.seen) c.self.view_is))
    (told_so now c.args.thread call (subst Fits c.self.view_is c.self.invariant.0) here c.args.seen
    (sym (ap (λ o. option_map_or (may_hear now.queue c.args.seen) o false) here) ∙ c.requires.can))

pub invariant_of-self : goal.invariant_of-self
invariant_of-self g c =
    let m : State = record {
      word = c.self.inside.word;
      calls = c.self.inside.calls.items;
      queue = c.self.inside.queue.items;
      inside = c.self.inside.inside;
      beside = c.self.inside.beside;
    } in
    let now = c.args.self.now in
    let call = c.in-Some.call in
    let here = sym c.call.ensures ∙ c.in-Some.is in
    let counted : vec_len c.self.inside.queue ≡ length c.self.inside.queue.items =
    omega (arith, c.self.inside.queue.ok.0) in (
      subst Fits (sym (ap (λ (d : OpenCall). record m { calls = slice_set m.calls c.args.thread (Some d) })
          (c.told.ensures ∙ ap (λ n. told_by call (nat_lt 0 n) c.args.seen call.core) (c.len-left.ensures ∙ counted))
          ∙ ap (λ (x : State). heard x c.args.thread call c.args.seen) c.self.view_is))
          (told_made now c.args.thread call (subst Fits c.self.view_is c.self.invariant.0) here c.args.seen
          (sym (ap (λ o. option_map_or (may_hear now.queue c.args.seen) o false) here) ∙ c.requires.can)).fits,
      room_set _ _ _ _ c.self.invariant.1,
    )
