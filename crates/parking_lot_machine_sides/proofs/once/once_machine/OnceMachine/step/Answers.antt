use Rattle.std.proofs.Common.{None, sym, ◌∙◌, subst}
use Rattle.parking_lot_machine_sides.specs.Once.OnceActs.{replied}
use Rattle.parking_lot_machine_sides.specs.Once.OnceFits.{Fits}
use Rattle.parking_lot_machine_sides.specs.Once.OnceSteps.{IsStepped}
use Rattle.parking_lot_machine_sides.proofs.OnceFacts.Stepping.{acts_stepped, ends_stepped, entry_so, own_so, possible}
use Rattle.parking_lot_machine_sides.proofs.once.once_machine.OnceMachine.step.Goals as goal

pub returns-in-Done : goal.returns-in-Done
returns-in-Done g c =
    let here = sym c.call.ensures ∙ c.in_ok-call.was in
    subst (λ reply. IsStepped c.args.thread reply c.args.self.now c.end.new.self) (sym c.end.ensures.replies)
    (subst (IsStepped c.args.thread (replied c.in_ok-call.call) c.args.self.now) (sym c.end.ensures.became)
    (ends_stepped c.args.self.now c.args.thread c.in_ok-call.call (subst Fits c.self.view_is c.self.invariant.0) here
    c.in-Done.field-0 (sym c.act.ensures ∙ c.in-Done.is)))

pub returns-in_default : goal.returns-in_default
returns-in_default g c =
    let here = sym c.call.ensures ∙ c.in_ok-call.was in
    let can = possible c.args.self.now c.args.thread c.in_ok-call.call here c.requires.can in
    let own = own_so _ c.in_ok-call.call.core.phase can (λ x e. c.in_default.not-Section x (c.act.ensures ∙ e))
    (λ x e. c.in_default.not-Done x (c.act.ensures ∙ e)) in
    subst (IsStepped c.args.thread None c.args.self.now) (sym c.act-in_default.ensures)
    (acts_stepped c.args.self.now c.args.thread c.in_ok-call.call (subst Fits c.self.view_is c.self.invariant.0) here
    own (entry_so _ _ can))
