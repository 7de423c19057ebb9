use Rattle.std.proofs.Common.{◌≡◌, ◌+◌, length}
use Rattle.std.specs.Prelude.{IsTrue, vec_capacity}
use Rattle.std.specs.List.{All}
use Rattle.std.specs.Vec.Iter.{into_iter_items}
use Rattle.dashmap_record.specs.History.Match.{rises}
use Rattle.dashmap_record.specs.Replaying.{no_pair, Replies}
use Rattle.dashmap_record.proofs.room.take_histories.Given as goal

-- each history is still to be taken, or in the list
abbrev pub invariant-loop-shard : goal.invariant-loop-shard
invariant-loop-shard g l =
    (goal.iterator-loop-shard g).can_next l.shard-iterator
    × (goal.iterator-loop-shard g).is_finite l.shard-iterator
    × (length l.histories.items + length (into_iter_items l.shard-iterator) ≡ length l.fn.shards.items)
    × (vec_capacity l.histories ≡ vec_capacity l.fn.histories)
    × All (λ history. IsTrue (rises history.items)) l.histories.items
    × All (λ history. Replies g.K.PartialEq.eq g.V.PartialEq.eq (no_pair g.row.K.Denot g.row.V.Denot) history.items)
    l.histories.items
