use Rattle.std.proofs.Common.{◌≡◌, sym, ap, ◌∙◌, subst, arith}
use Rattle.parking_lot_machine_sides.specs.Condvar.Fitting.{Fits}
use Rattle.parking_lot_machine_sides.specs.Condvar.Machines.{State}
use Rattle.parking_lot_machine_sides.specs.Condvar.OwnSteps.{inside_after_notify, notify_goes, notify_sees, stepped}
use Rattle.parking_lot_machine_sides.specs.Condvar.OwnSteps.{beside_after_notify, word_after_notify}
use Rattle.parking_lot_machine_sides.proofs.CondvarFacts.Making.{held, low, may_so, notified}
use Rattle.parking_lot_machine_sides.proofs.CondvarFacts.Slots.{room_set}
use Rattle.parking_lot_machine_sides.proofs.CondvarFacts.Stepping.{step_made}
use Rattle.parking_lot_machine_sides.proofs.condvar.condvar_machine.CondvarMachine.step_notify.Goals as goal

pub index_mut-requires : goal.index_mut-requires
index_mut-requires g c =
    omega (arith, low c.args.thread c.args.call c.self.view_is c.requires.here, c.self.inside.calls.ok.0)

made : goal.returns
made g c =
    let m : State = record {
      word = c.self.inside.word;
      calls = c.self.inside.calls.items;
      queue = c.self.inside.queue.items;
      inside = c.self.inside.inside;
      beside = c.self.inside.beside;
    } in
    notified m c.args.thread c.args.call c.args.core c.requires.its _ _ _ _
    (c.word_after_notify-self-inside.ensures ∙ ap (λ p. word_after_notify p m.word) c.phase-phase.ensures)
    (c.goes_on_notifying.ensures ∙ ap (λ seen. notify_goes c.args.call c.args.core seen c.args.core.phase)
    (c.notify_sees-seen.ensures ∙ ap (notify_sees m.word) c.phase-phase.ensures))
    (c.inside_after_notify-self-inside.ensures ∙ ap (λ p. inside_after_notify c.args.thread p m.inside)
    c.phase-phase.ensures)
    (c.beside_after_notify-self-inside.ensures ∙ ap (λ p. beside_after_notify p m.beside) c.phase-phase.ensures)
    ∙ ap (λ (x : State). stepped x c.args.thread c.args.call) c.self.view_is

pub returns : goal.returns
returns = made

pub invariant_of-self : goal.invariant_of-self
invariant_of-self g c =
    let m : State = record {
      word = c.self.inside.word;
      calls = c.self.inside.calls.items;
      queue = c.self.inside.queue.items;
      inside = c.self.inside.inside;
      beside = c.self.inside.beside;
    } in (
      subst Fits (sym (made g c ∙ sym (ap (λ (x : State). stepped x c.args.thread c.args.call) c.self.view_is)))
          (step_made m c.args.thread c.args.call c.self.invariant.0
          (held c.args.thread c.args.call c.self.view_is c.requires.here)
          (may_so c.args.call c.self.view_is c.requires.may)).fits,
      room_set _ _ _ _ c.self.invariant.1,
    )
