use Rattle.std.proofs.Common.{◌≤◌, length}
use Rattle.dashmap_map.specs.Effects.{Shrunk}
use Rattle.dashmap_map.specs.Evidence.{HeldUpTo}
use Rattle.dashmap_map.proofs.map.DashMap.shrink_to_fit.Given as goal

-- the shards before this one were shrunk, one after another
abbrev pub invariant-loop-shard : goal.invariant-loop-shard
invariant-loop-shard g l =
    HeldUpTo g.Q.Evidence.held l.fn.self (Shrunk g.K.PartialEq.eq) l.shard l.fn.td l.td
    × (l.shard ≤ length l.fn.self.locks)
