use Rattle.std.proofs.Common.{◌≡◌, ◌∙◌, ℕ, ◌<◌, length, ap, subst, get_or, List, arith}
use Rattle.parking_lot_core_model.specs.declared.lists.Entry.{Entry}
use Rattle.parking_lot_core_model.proofs.Kept.{found, passed_at, passed_other}
use Rattle.parking_lot_core_model.proofs.lists.Lists.find.Goals as goal
use Rattle.parking_lot_core_model.proofs.lists.Lists.find.Goals.{then-entry-key+else-passed-nth, else-entry-key}

pub returns-then-passed-nth : goal.returns-then-passed-nth
returns-then-passed-nth g c =
    let es = c.args.self.now.entries.items in
    found es c.loop-at.at c.entry-item.result c.args.key c.args.nth c.loop-at.passed
    (subst (λ (xs : List (Entry g.row.T.Denot)). c.loop-at.at < length xs) c.deref-entry-items.ensures.value
    c.loop-at-test.true)
    (c.entry-item.is ∙ ap (λ (xs : List (Entry g.row.T.Denot)). get_or xs c.loop-at.at c.entry-item.result)
    c.deref-entry-items.ensures.value) c.if-entry-key.true c.loop-at.invariant.passed c.if-passed-nth.true

pub loop-at-preserved : goal.loop-at-preserved
loop-at-preserved g c =
    let es = c.args.self.now.entries.items in
    let within : c.loop-at.at < length es = subst (λ (xs : List (Entry g.row.T.Denot)). c.loop-at.at < length xs)
    c.deref-entry-items.ensures.value c.loop-at-test.true in
    let entry : c.entry-item.result ≡ get_or es c.loop-at.at c.entry-item.result = c.entry-item.is
    ∙ ap (λ (xs : List (Entry g.row.T.Denot)). get_or xs c.loop-at.at c.entry-item.result)
    c.deref-entry-items.ensures.value in
    elim c.if-entry-key.branch [
      | then-entry-key+else-passed-nth w ↦ record {
        passed = w.passed-is ∙ passed_at es c.loop-at.at c.entry-item.result c.args.key c.loop-at.passed within entry
            w.if-entry-key.true c.loop-at.invariant.passed;
        below = omega arith;
      }
      | else-entry-key w ↦ record {
        passed = w.passed-is ∙ passed_other es c.loop-at.at c.entry-item.result c.args.key c.loop-at.passed within entry
            w.if-entry-key.false c.loop-at.invariant.passed;
        below = omega arith;
      }
    ]
