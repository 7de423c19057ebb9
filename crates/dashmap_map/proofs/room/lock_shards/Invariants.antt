use Rattle.std.proofs.Common.{◌≡◌, ◌≤◌, ◌+◌, ℕ, length}
use Rattle.std.specs.List.{All}
use Rattle.std.specs.Prelude.{vec_len, vec_capacity}
use Rattle.dashmap_map.specs.Owner.{IsFresh, EachBehind}
use Rattle.dashmap_map.proofs.room.lock_shards.Given as goal

abbrev pub invariant-loop-shard : goal.invariant-loop-shard
invariant-loop-shard g l =
    (vec_len l.locks + vec_len l.shards ≤ vec_capacity l.locks)
    × (length l.locks.items + length l.shards.items ≡ length l.fn.locks.items + length l.fn.shards.items)
    × ((share : ℕ) → All (IsFresh share) l.fn.shards.items
    → EachBehind g.Q.OwnerEvidence.put (IsFresh share) l.fn.locks.items
    → All (IsFresh share) l.shards.items × EachBehind g.Q.OwnerEvidence.put (IsFresh share) l.locks.items)

abbrev pub decreases-loop-shard : goal.decreases-loop-shard
decreases-loop-shard g l = length l.shards.items
