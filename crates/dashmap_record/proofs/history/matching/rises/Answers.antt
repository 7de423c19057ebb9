use Rattle.std.proofs.Common.{refl, sym, ◌∙◌}
use Rattle.dashmap_record.proofs.HistoryFacts.Rising.{rises_on, rises_no, rises_end}
use Rattle.dashmap_record.proofs.history.matching.rises.Goals as goal

pub loop-entry-init : goal.loop-entry-init
loop-entry-init g c = refl

pub returns-then-not-is_above : goal.returns-then-not-is_above
returns-then-not-is_above g c =
    sym (c.loop-entry.invariant
    ∙ rises_no c.loop-entry.last c.args.list.now c.loop-entry.entry-index c.entry-item.result c.loop-entry-test.true
    c.entry-item.is (sym c.is_above.ensures ∙ c.if-not-is_above.true))

pub loop-entry-preserved : goal.loop-entry-preserved
loop-entry-preserved g c =
    c.loop-entry.invariant
    ∙ rises_on c.loop-entry.last c.args.list.now c.loop-entry.entry-index c.entry-item.result c.loop-entry-test.true
    c.entry-item.is (sym c.is_above.ensures ∙ c.if-not-is_above.false)

pub returns : goal.returns
returns g c = sym (c.loop-entry.invariant ∙ rises_end c.loop-entry.last c.args.list.now c.loop-entry.entry-index
    c.loop-entry-test.false)
