use Rattle.std.proofs.Common.{sym, ap, ◌∙◌}
use Rattle.dashmap_table.specs.Slots.{count}
use Rattle.dashmap_table.proofs.Sounds.{length-pairs_of}
use Rattle.dashmap_table.proofs.shard.Shard.into_pairs.Goals as goal

pub new-requires : goal.new-requires
new-requires g c = c.len-left.ensures.count
    ∙ (ap count (sym c.into_slots.ensures) ∙ sym (length-pairs_of c.into_slots.result.items))
