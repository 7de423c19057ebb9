use Rattle.std.proofs.Common.{◌≡◌, sym, ap, ◌∙◌, subst, false}
use Rattle.std.specs.Option.{option_map_or}
use Rattle.parking_lot_machine_sides.specs.Condvar.Calls.{reply_of}
use Rattle.parking_lot_machine_sides.specs.Condvar.Fitting.{Fits}
use Rattle.parking_lot_machine_sides.specs.Condvar.Machines.{may_step}
use Rattle.parking_lot_machine_sides.specs.Condvar.Steps.{IsStepped}
use Rattle.parking_lot_machine_sides.proofs.CondvarFacts.Stepping.{step_so}
use Rattle.parking_lot_machine_sides.proofs.condvar.condvar_machine.CondvarMachine.step.Goals.{in-Wait, in-Notify}
use Rattle.parking_lot_machine_sides.proofs.condvar.condvar_machine.CondvarMachine.step.Goals as goal

pub returns : goal.returns
returns g c =
    let now = c.args.self.now in
    let call = c.in_ok-call.call in
    let here = sym c.call.ensures ∙ c.in_ok-call.was in
    let so : IsStepped c.args.thread (reply_of call) now _ = step_so now c.args.thread call
    (subst Fits c.self.view_is c.self.invariant.0) here
    (sym (ap (λ o. option_map_or (may_step now.inside) o false) here) ∙ c.requires.can) in
    subst (λ reply. IsStepped c.args.thread reply now c.match-call.self) (sym c.reply.ensures)
    (elim c.match-call.branch [
      | in-Wait w ↦ subst (IsStepped c.args.thread (reply_of call) now) (sym (w.self-is ∙ w.step_wait.ensures)) so
      | in-Notify w ↦ subst (IsStepped c.args.thread (reply_of call) now) (sym (w.self-is ∙ w.step_notify.ensures)) so
    ])
