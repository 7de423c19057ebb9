use Rattle.std.proofs.Common.{◌≤◌, length}
use Rattle.dashmap_table.specs.Slots.{count}
use Rattle.dashmap_map.specs.Evidence.{SumsUpTo}
use Rattle.dashmap_map.proofs.map.DashMap.len.Given as goal

-- the shards below one were counted in turn
abbrev pub invariant-loop-shard : goal.invariant-loop-shard
invariant-loop-shard g l =
    SumsUpTo g.Q.Evidence.showed l.fn.self (λ shard. count shard.slots) l.shard l.fn.td l.td l.sum
    × (l.shard ≤ length l.fn.self.locks)
