use Rattle.dashmap_table.proofs.Tagging.{full-lane, free-lanes}
use Rattle.dashmap_table.proofs.probe.full_slot_from.Goals as goal

pub returns-in-Some : goal.returns-in-Some
returns-in-Some c = full-lane c.args.tags.now c.loop-from.from c.lanes_at.result c.lanes_at.ensures c.args.slot
    c.in-Some.lane c.loop-from.invariant.0 c.loop-from.invariant.1 c.in-Some.ensures.0 c.in-Some.ensures.1

pub loop-from-preserved : goal.loop-from-preserved
loop-from-preserved c = free-lanes c.args.tags.now c.loop-from.from c.lanes_at.result c.lanes_at.ensures c.args.slot
    c.loop-from.invariant.0 c.loop-from.invariant.1 c.in_default.ensures
