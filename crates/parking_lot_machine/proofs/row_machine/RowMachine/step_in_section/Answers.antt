use Rattle.std.proofs.Common.{◌≡◌, ap, ◌∙◌, subst}
use Rattle.parking_lot_protocol.specs.declared.act.Act.TheVariants as act
use Rattle.parking_lot_machine.specs.Rows.{Rows, state}
use Rattle.parking_lot_machine.specs.RowActs.{told_all}
use Rattle.parking_lot_machine.specs.RowFits.{FitsTogether}
use Rattle.parking_lot_machine.proofs.Stepping as steps
use Rattle.parking_lot_machine.proofs.row_machine.RowMachine.step_in_section.Goals as goal

fits : {m n : Rows} → m ≡ n → FitsTogether (state m) → FitsTogether (state n)
fits e h = subst (λ (x : Rows). FitsTogether (state x)) e h

pub returns-in-Check : goal.returns-in-Check
returns-in-Check g c = steps.check (state c.args.self.now) _ c.args.thread c.args.call c.args.fair
    (fits c.self.view_is c.self.invariant.0) c.requires.here (c.requires.asked ∙ ap (λ x. act.Section x) c.in-Check.is)
    c.check.ensures

pub returns-in-TakeFirst : goal.returns-in-TakeFirst
returns-in-TakeFirst g c = steps.take_first (state c.args.self.now) _ c.args.thread c.args.call c.args.fair
    (fits c.self.view_is c.self.invariant.0) c.requires.here
    (c.requires.asked ∙ ap (λ x. act.Section x) c.in-TakeFirst.is) c.take_first.ensures

pub returns-in-TakeNext : goal.returns-in-TakeNext
returns-in-TakeNext g c = steps.take_next (state c.args.self.now) _ c.args.thread c.args.call c.args.fair
    (fits c.self.view_is c.self.invariant.0) c.requires.here _
    (c.requires.asked ∙ ap (λ x. act.Section x) c.in-TakeNext.is) c.take_next.ensures

pub returns-in-Append : goal.returns-in-Append
returns-in-Append g c = steps.append (state c.args.self.now) _ c.args.thread c.args.call c.args.fair
    (fits c.self.view_is c.self.invariant.0) c.requires.here _
    (c.requires.asked ∙ ap (λ x. act.Section x) c.in-Append.is) c.append.ensures

pub returns-in-Leave : goal.returns-in-Leave
returns-in-Leave g c = steps.leave (state c.args.self.now) _ c.args.thread c.args.call c.args.fair
    (fits c.self.view_is c.self.invariant.0) c.requires.here (c.requires.asked ∙ ap (λ x. act.Section x) c.in-Leave.is)
    c.leave.ensures

pub returns-in-Wake : goal.returns-in-Wake
returns-in-Wake g c = steps.wake (state c.args.self.now) _ c.args.thread c.args.call c.args.fair
    (fits c.self.view_is c.self.invariant.0) c.requires.here (c.requires.asked ∙ ap (λ x. act.Section x) c.in-Wake.is)
    c.wake.ensures

pub returns-in-Store : goal.returns-in-Store
returns-in-Store g c =
    steps.store (state c.args.self.now) _ c.args.thread c.args.call c.args.fair (fits c.self.view_is c.self.invariant.0)
    c.requires.here _ _ (c.requires.asked ∙ ap (λ x. act.Section x) c.in-Store.is)
    (c.store.ensures ∙ ap (λ x. told_all (state c.args.self.now) c.args.thread c.args.call x c.args.fair)
    c.change_by.ensures)
