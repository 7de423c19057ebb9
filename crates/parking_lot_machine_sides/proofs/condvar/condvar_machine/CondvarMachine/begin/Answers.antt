use Rattle.std.proofs.Common.{Some, slice_set, sym, ap, ◌∙◌, subst}
use Rattle.parking_lot_machine_sides.specs.Condvar.Calls.{OpenCall}
use Rattle.parking_lot_machine_sides.specs.Condvar.Fitting.{Fits}
use Rattle.parking_lot_machine_sides.specs.Condvar.Machines.{State}
use Rattle.parking_lot_machine_sides.specs.Condvar.Steps.{IsBegun, begun}
use Rattle.parking_lot_machine_sides.proofs.CondvarFacts.Beginning.{begins_fits, begins_so}
use Rattle.parking_lot_machine_sides.proofs.CondvarFacts.Slots.{room_set}
use Rattle.parking_lot_machine_sides.proofs.condvar.condvar_machine.CondvarMachine.begin.Goals as goal

pub returns : goal.returns
returns g c =
    let m : State = record {
      word = c.self.inside.word;
      calls = c.self.inside.calls.items;
      queue = c.self.inside.queue.items;
      inside = c.self.inside.inside;
      beside = c.self.inside.beside;
    } in
    subst (IsBegun c.args.thread c.args.call c.args.self.now)
    (sym (ap (λ (d : OpenCall). record m { calls = slice_set m.calls c.args.thread (Some d) }) c.begun.ensures
    ∙ ap (λ (x : State). begun x c.args.thread c.args.call) c.self.view_is))
    (begins_so c.args.self.now c.args.thread c.args.call (subst Fits c.self.view_is c.self.invariant.0) c.requires.may)

pub invariant_of-self : goal.invariant_of-self
invariant_of-self g c = (
  subst Fits (sym (returns g c).became)
      (begins_fits c.args.self.now c.args.thread c.args.call (subst Fits c.self.view_is c.self.invariant.0)
      c.requires.may),
  room_set _ _ _ _ c.self.invariant.1,
)
