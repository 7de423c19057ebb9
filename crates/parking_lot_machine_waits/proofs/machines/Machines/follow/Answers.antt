use Rattle.std.proofs.Common.{◌≡◌, Some, ap, refl, sym, ◌∙◌, subst}
use Rattle.parking_lot_protocol.specs.declared.act.CoreAnswer.TheVariants as answer
use Rattle.parking_lot_machine.specs.Rows.{call_at, state}
use Rattle.parking_lot_machine_waits.specs.Joint.{Joint, call_in, var_in}
use Rattle.parking_lot_machine_waits.specs.Turns.{retried}
use Rattle.parking_lot_machine_waits.proofs.Again.{asks_again}
use Rattle.parking_lot_machine_waits.proofs.Hearing.{hears_waking, is_following}
use Rattle.parking_lot_machine_waits.proofs.machines.Machines.follow.Goals as goal

pub ask_again-requires : goal.ask_again-requires
ask_again-requires g c = record {
  may = asks_again (state c.self.inside.rows) (state c.step.new.self) c.args.number c.args.fair answer.Refused c.args.at
      c.step.result c.known.ensures
      (subst (λ (j : Joint). call_at (state j.rows) c.args.number ≡ Some c.args.at) (sym c.self.view_is)
      c.requires.there) c.requires.mutex refl (c.in-Some-Refused.is ∙ ap Some c.in-Some-Refused.field-0-is)
      c.step.ensures;
  hears = hears_waking (var_in c.self.inside.vars.items c.args.variable) c.args.thread c.args.call retried
      (subst (λ (j : Joint). call_in (var_in j.vars c.args.variable) c.args.thread ≡ Some c.args.call)
      (sym c.self.view_is) c.requires.here) (ap is_following c.requires.turn);
}

pub ask_again-requires-in-Some-Released-clause-may : goal.ask_again-requires-in-Some-Released-clause-may
ask_again-requires-in-Some-Released-clause-may g c =
    asks_again (state c.self.inside.rows) (state c.step.new.self) c.args.number c.args.fair answer.Released c.args.at
    c.step.result c.known.ensures
    (subst (λ (j : Joint). call_at (state j.rows) c.args.number ≡ Some c.args.at) (sym c.self.view_is) c.requires.there)
    c.requires.mutex refl (c.in-Some-Released.is ∙ ap Some c.in-Some-Released.field-0-is) c.step.ensures
