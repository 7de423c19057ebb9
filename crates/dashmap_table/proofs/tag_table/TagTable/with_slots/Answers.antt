use Rattle.dashmap_table.proofs.TagChanges.{table-fresh_is}
use Rattle.dashmap_table.proofs.tag_table.TagTable.with_slots.Goals as goal

pub invariant_of-result : goal.invariant_of-result
invariant_of-result g c = table-fresh_is g.row.K.Denot g.row.V.Denot g.K.PartialEq.eq _ _ c.args.slots c.args.room
    c.in_ok-tags.ensures c.in_ok-free_slots.ensures c.requires.some c.requires.whole
