use Rattle.std.proofs.Common.{◌≡◌, ◌≤◌, ◌+◌, length}
use Rattle.std.specs.Prelude.{vec_capacity}
use Rattle.dashmap_record.proofs.room.lock_shards.Given as goal

-- each shard is still to be locked, or behind a lock
abbrev pub invariant-loop-shard : goal.invariant-loop-shard
invariant-loop-shard g l =
    (length l.locks.items + length l.shards.items ≤ vec_capacity l.locks)
    × (length l.locks.items + length l.shards.items ≡ length l.fn.locks.items + length l.fn.shards.items)

abbrev pub decreases-loop-shard : goal.decreases-loop-shard
decreases-loop-shard g l = length l.shards.items
