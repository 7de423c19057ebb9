use Rattle.std.proofs.Common.{arith}
use Rattle.dashmap_table.proofs.Tagging.{next-full}
use Rattle.dashmap_table.proofs.tag_table.TagTable.next_from.Goals as goal

pub returns : goal.returns
returns g c =
    next-full c.self.inside.tags c.as_slice.result.now c.self.inside.slots.items c.args.self.now _ c.args.slot
    c.self.invariant.tagged c.as_slice.ensures.tags c.self.view_is
    (omega (arith, c.self.inside.slots.ok.0, c.self.inside.slots.ok.1, c.self.inside.slots.small))
    c.full_slot_from.result c.full_slot_from.ensures
