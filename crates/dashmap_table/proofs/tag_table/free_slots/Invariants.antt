use Rattle.std.proofs.Common.{◌≡◌, replicate, vec_capacity}
use Rattle.dashmap_table.specs.Tagged.{no_entry}
use Rattle.dashmap_table.proofs.tag_table.free_slots.Given as goal

abbrev pub invariant-loop : goal.invariant-loop
invariant-loop g l = (l.slots.items ≡ replicate l.counter (no_entry g.row.K.Denot g.row.V.Denot))
    × (vec_capacity l.slots ≡ l.count)
