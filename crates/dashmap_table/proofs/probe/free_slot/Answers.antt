use Rattle.dashmap_table.proofs.Tagging.{place-first}
use Rattle.dashmap_table.proofs.probe.free_slot.Goals as goal

pub returns-in-Some : goal.returns-in-Some
returns-in-Some c = place-first c.args.tags.now c.args.hash c.first_on_way-from.result c.in-Some.lane
    c.whole_lanes_at.result c.first_on_way-from.ensures.window c.whole_lanes_at.ensures c.in-Some.ensures.0
