use Rattle.std.proofs.Common.{None, sym, ap, ◌∙◌, subst}
use Rattle.parking_lot_protocol.specs.declared.act.Act.TheVariants as asks
use Rattle.parking_lot_machine_sides.specs.Once.OnceFits.{Fits}
use Rattle.parking_lot_machine_sides.specs.Once.OnceSteps.{IsStepped}
use Rattle.parking_lot_machine_sides.proofs.OnceFacts.Stepping.{acts_stepped, appends_stepped, inside_so, section_entry}
use Rattle.parking_lot_machine_sides.proofs.OnceFacts.Stepping.{takes_stepped, wakes_stepped}
use Rattle.parking_lot_machine_sides.proofs.once.once_machine.OnceMachine.step_in_section.Goals as goal

pub returns-in-TakeNext : goal.returns-in-TakeNext
returns-in-TakeNext g c = subst (IsStepped c.args.thread None c.args.self.now) (sym c.take.ensures)
    (takes_stepped c.args.self.now c.args.thread c.args.call (subst Fits c.self.view_is c.self.invariant.0)
    c.requires.here c.in-TakeNext.field-0 (c.requires.asked ∙ ap (λ x. asks.Section x) c.in-TakeNext.is))

pub returns-in-Append : goal.returns-in-Append
returns-in-Append g c = subst (IsStepped c.args.thread None c.args.self.now) (sym c.append.ensures)
    (appends_stepped c.args.self.now c.args.thread c.args.call (subst Fits c.self.view_is c.self.invariant.0)
    c.requires.here c.in-Append.field-0 (c.requires.asked ∙ ap (λ x. asks.Section x) c.in-Append.is))

pub returns-in-Wake : goal.returns-in-Wake
returns-in-Wake g c = subst (IsStepped c.args.thread None c.args.self.now) (sym c.wake.ensures)
    (wakes_stepped c.args.self.now c.args.thread c.args.call (subst Fits c.self.view_is c.self.invariant.0)
    c.requires.here (c.requires.asked ∙ ap (λ x. asks.Section x) c.in-Wake.is))

pub returns-in_default : goal.returns-in_default
returns-in_default g c =
    let own = inside_so c.args.call.core.phase c.args.next c.requires.asked c.in_default.not-TakeNext
    c.in_default.not-Append c.in_default.not-Wake in
    subst (IsStepped c.args.thread None c.args.self.now) (sym c.act.ensures)
    (acts_stepped c.args.self.now c.args.thread c.args.call (subst Fits c.self.view_is c.self.invariant.0)
    c.requires.here own (section_entry _ c.args.next _ c.requires.asked))
