use Rattle.std.proofs.Common.{Some, slice_set, refl, sym, ap, ◌∙◌, subst}
use Rattle.parking_lot_machine_sides.specs.declared.once.open_call.OpenCall.{OpenCall}
use Rattle.parking_lot_machine_sides.specs.Once.OnceActs.{begun}
use Rattle.parking_lot_machine_sides.specs.Once.OnceFits.{Fits}
use Rattle.parking_lot_machine_sides.specs.Once.OnceSteps.{IsBegun}
use Rattle.parking_lot_machine_sides.specs.Once.Onces.{Onces}
use Rattle.parking_lot_machine_sides.proofs.OnceFacts.Beginning.{begins_fits, begins_so, may_so}
use Rattle.parking_lot_machine_sides.proofs.OnceFacts.Holding.{room_set}
use Rattle.parking_lot_machine_sides.proofs.OnceFacts.Ranking.{begins_cost}
use Rattle.parking_lot_machine_sides.proofs.once.once_machine.OnceMachine.begin.Goals as goal

pub returns : goal.returns
returns g c =
    let s : Onces = c.args.self.now in
    let may = may_so s c.args.thread c.args.once c.requires.may in
    let m : Onces = record {
      words = c.self.inside.words.items;
      calls = c.self.inside.calls.items;
      waiting = c.self.inside.waiting.items;
      wakes = c.self.inside.wakes.items;
      inside = c.self.inside.inside.items;
    } in
    subst (IsBegun c.args.thread c.args.once c.args.call s)
    (sym (ap (λ (d : OpenCall). record m { calls = slice_set m.calls c.args.thread (Some d) }) c.begun.ensures
    ∙ ap (λ (x : Onces). begun x c.args.thread c.args.once c.args.call) c.self.view_is))
    (record {
      became = refl;
      lawful = begins_so s c.args.thread c.args.once c.args.call
          (subst Fits c.self.view_is c.self.invariant.0) may;
      costs = begins_cost s c.args.thread c.args.once c.args.call
          may;
    })

pub invariant_of-self : goal.invariant_of-self
invariant_of-self g c = (
  subst Fits (sym (returns g c).became)
      (begins_fits c.args.self.now c.args.thread c.args.once c.args.call (subst Fits c.self.view_is c.self.invariant.0)
      (may_so c.args.self.now c.args.thread c.args.once c.requires.may)),
  room_set _ _ _ _ c.self.invariant.1,
  room_set _ _ _ _ c.self.invariant.2,
)
