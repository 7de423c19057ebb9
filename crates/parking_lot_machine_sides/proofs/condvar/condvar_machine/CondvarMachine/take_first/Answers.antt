use Rattle.std.proofs.Common.{◌≡◌, is_some, sym, ap, ◌∙◌, subst, false}
use Rattle.std.specs.Option.{option_map_or}
use Rattle.std.proofs.lemmas.Option.{IfSome_then}
use Rattle.parking_lot_machine_sides.specs.Condvar.Fitting.{Fits}
use Rattle.parking_lot_machine_sides.specs.Condvar.Machines.{is_left, may_take}
use Rattle.parking_lot_machine_sides.specs.Condvar.Steps.{IsTaken}
use Rattle.parking_lot_machine_sides.specs.Condvar.Turns.{takes_by}
use Rattle.parking_lot_machine_sides.proofs.CondvarFacts.Making.{has_first, taken_if}
use Rattle.parking_lot_machine_sides.proofs.CondvarFacts.Stepping.{second_of}
use Rattle.parking_lot_machine_sides.proofs.condvar.condvar_machine.CondvarMachine.take_first.Goals as goal

pub returns-clause-took : goal.returns-clause-took
returns-clause-took g c =
    let here = sym c.call.ensures ∙ c.in_ok-call.was in
    taken_if c.args.self.now c.args.thread c.in_ok-call.call (subst Fits c.self.view_is c.self.invariant.0) here
    (sym (ap (λ o. option_map_or (may_take c.args.self.now.queue) o false) here) ∙ c.requires.can) c.take.result
    c.take.new.self c.take.ensures.first c.take.ensures.became

pub returns-clause-some : goal.returns-clause-some
returns-clause-some g c =
    let here = sym c.call.ensures ∙ c.in_ok-call.was in
    let call = c.in_ok-call.call in
    ap is_some c.take.ensures.first
    ∙ has_first c.args.self.now.queue
    (second_of _ (is_left c.args.self.now.queue)
    (sym (ap (λ o. option_map_or (may_take c.args.self.now.queue) o false) here) ∙ c.requires.can))
