use Rattle.std.proofs.Common.{◌≡◌, sym, ◌∙◌, subst, arith}
use Rattle.parking_lot_machine.specs.Rows.{Rows, State, state}
use Rattle.parking_lot_machine.specs.RowFits.{FitsTogether}
use Rattle.parking_lot_machine.proofs.Acting.{has_word}
use Rattle.parking_lot_machine.proofs.Stepping as steps
use Rattle.parking_lot_machine.proofs.row_machine.RowMachine.step.Goals as goal

fits : {m n : Rows} → m ≡ n → FitsTogether (state m) → FitsTogether (state n)
fits e h = subst (λ (x : Rows). FitsTogether (state x)) e h

pub enter-requires-clause-small : goal.enter-requires-clause-small
enter-requires-clause-small g c =
    let s : State = state c.args.self.now in
    let held : FitsTogether s = fits c.self.view_is c.self.invariant.0 in
    omega (
      arith,
      has_word s held c.args.thread c.in_ok-call.call (sym c.call.ensures ∙ c.in_ok-call.was),
      held.rules.size_words,
      held.rules.few_locks,
    )

pub returns-in-Done : goal.returns-in-Done
returns-in-Done g c = steps.answer (state c.args.self.now) _ c.args.thread c.in_ok-call.call c.args.fair
    (fits c.self.view_is c.self.invariant.0) (sym c.call.ensures ∙ c.in_ok-call.was) _
    (sym c.act.ensures ∙ c.in-Done.is) c.answer.ensures

pub returns-in-Load : goal.returns-in-Load
returns-in-Load g c = steps.load (state c.args.self.now) _ c.args.thread c.in_ok-call.call c.args.fair
    (fits c.self.view_is c.self.invariant.0) (sym c.call.ensures ∙ c.in_ok-call.was) (sym c.act.ensures ∙ c.in-Load.is)
    c.load.ensures

pub returns-in-Exchange : goal.returns-in-Exchange
returns-in-Exchange g c = steps.exchange (state c.args.self.now) _ c.args.thread c.in_ok-call.call c.args.fair
    (fits c.self.view_is c.self.invariant.0) (sym c.call.ensures ∙ c.in_ok-call.was) _ _
    (sym c.act.ensures ∙ c.in-Exchange.is) c.exchange.ensures

pub returns-in-Add : goal.returns-in-Add
returns-in-Add g c = steps.add (state c.args.self.now) _ c.args.thread c.in_ok-call.call c.args.fair
    (fits c.self.view_is c.self.invariant.0) (sym c.call.ensures ∙ c.in_ok-call.was) _ (sym c.act.ensures ∙ c.in-Add.is)
    c.add.ensures

pub returns-in-FetchAnd : goal.returns-in-FetchAnd
returns-in-FetchAnd g c = steps.mask (state c.args.self.now) _ c.args.thread c.in_ok-call.call c.args.fair
    (fits c.self.view_is c.self.invariant.0) (sym c.call.ensures ∙ c.in_ok-call.was) _
    (sym c.act.ensures ∙ c.in-FetchAnd.is) c.mask.ensures

pub returns-in-Spin : goal.returns-in-Spin
returns-in-Spin g c = steps.spin (state c.args.self.now) _ c.args.thread c.in_ok-call.call c.args.fair
    (fits c.self.view_is c.self.invariant.0) (sym c.call.ensures ∙ c.in_ok-call.was) (sym c.act.ensures ∙ c.in-Spin.is)
    c.spin.ensures

pub returns-in-Enter : goal.returns-in-Enter
returns-in-Enter g c = steps.enter (state c.args.self.now) _ c.args.thread c.in_ok-call.call c.args.fair
    (fits c.self.view_is c.self.invariant.0) (sym c.call.ensures ∙ c.in_ok-call.was) _
    (sym c.act.ensures ∙ c.in-Enter.is)
    (steps.can_enter (state c.args.self.now) c.args.thread c.in_ok-call.call _ c.requires.can
    (sym c.call.ensures ∙ c.in_ok-call.was) (sym c.act.ensures ∙ c.in-Enter.is)) c.enter.ensures
