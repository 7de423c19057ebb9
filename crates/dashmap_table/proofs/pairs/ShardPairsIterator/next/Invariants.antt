use Rattle.std.proofs.Common.{◌≡◌, length}
use Rattle.std.specs.Vec.Iter.{into_iter_items}
use Rattle.dashmap_table.specs.Slots.{pairs_of}
use Rattle.dashmap_table.proofs.pairs.ShardPairsIterator.next.Given as goal

-- only free slots were passed over
abbrev pub invariant-loop-slot : goal.invariant-loop-slot
invariant-loop-slot g l =
    (l.self-inside.left ≡ length (pairs_of (into_iter_items l.self-inside.slots)))
    × (pairs_of (into_iter_items l.self-inside.slots) ≡ l.fn.self)

abbrev pub decreases-loop-slot : goal.decreases-loop-slot
decreases-loop-slot g l = length (into_iter_items l.self-inside.slots)
