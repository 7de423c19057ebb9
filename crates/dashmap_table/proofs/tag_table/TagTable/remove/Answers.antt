use Rattle.std.proofs.Common.{rules, ◌≡◌, Some, ap, slice_set}
use Rattle.dashmap_table.specs.Slots.{at}
use Rattle.dashmap_table.proofs.TagChanges.{freed-table}
use Rattle.dashmap_table.proofs.tag_table.TagTable.remove.Goals as goal

pub invariant_of-self-2 : goal.invariant_of-self-2
invariant_of-self-2 g c =
    let here : at c.self.inside.slots.items c.args.slot ≡ Some c.in_ok-entry.entry = search rules in
    freed-table g.K.PartialEq.eq c.self.inside.tags c.self.inside.slots.items c.self.inside.full c.self.inside.left
    c.self.invariant c.as_slice.result.now c.as_slice.ensures.tags c.args.self.now c.self.view_is
    c.args.slot c.freed_tag-tag.result c.in_ok-entry.entry here c.freed_tag-tag.ensures.free
    c.freed_tag-tag.ensures.ends c.set.new.self (slice_set c.self.inside.slots.items c.args.slot c.take.new.self)
    c.set.ensures (ap (slice_set c.self.inside.slots.items c.args.slot) c.take.ensures.after)
