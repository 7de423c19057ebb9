use Rattle.dashmap_table.proofs.Tagging.{full-lanes}
use Rattle.dashmap_table.proofs.tag_table.TagTable.full_from.Goals as goal

pub returns : goal.returns
returns g c = full-lanes c.self.inside.tags c.as_slice.result.now c.self.inside.slots.items c.args.self.now _
    c.args.slot c.self.invariant.tagged c.as_slice.ensures.tags c.self.view_is c.lanes_at.result c.lanes_at.ensures
