use Rattle.std.proofs.Common.{◌≡◌, ◌≤◌, ℕ, None, length}
use Rattle.dashmap_table.specs.Slots.{at}
use Rattle.dashmap_iter.specs.Walks.Held.{LockedUpTo}
use Rattle.dashmap_iter.proofs.walks.walks.DashMapWalks.clear.Given as goal

-- the shards below one were held, one after another
abbrev pub invariant-loop-shard : goal.invariant-loop-shard
invariant-loop-shard g l = LockedUpTo {K = g.row.K.Denot} {V = g.row.V.Denot} g.Q.Evidence.held l.fn.self
    (λ p q. (i : ℕ) → at q.1.slots i ≡ None) l.shard (l.fn.td, tt {0}) (l.td, tt {0})
    × (l.shard ≤ length l.fn.self.locks)
