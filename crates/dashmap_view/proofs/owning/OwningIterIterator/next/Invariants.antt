use Rattle.std.proofs.Common.{◌≡◌, length}
use Rattle.std.specs.Vec.Iter.{into_iter_items}
use Rattle.dashmap_view.specs.Owning.{pairs_left}
use Rattle.dashmap_view.proofs.owning.OwningIterIterator.next.Given as goal

-- only shards without a pair left were given up
abbrev pub invariant-loop-self : goal.invariant-loop-self
invariant-loop-self g l = pairs_left l.self-inside.pairs (into_iter_items l.self-inside.shards) ≡ l.fn.self

abbrev pub decreases-loop-self : goal.decreases-loop-self
decreases-loop-self g l = length (into_iter_items l.self-inside.shards)
