use Rattle.std.proofs.Common.{◌≤◌, length}
use Rattle.dashmap_iter.specs.Walks.Visits.{Walked, AtFull}
use Rattle.dashmap.specs.Set.Walks.{KeepsKey}
use Rattle.dashmap_iter.specs.Walks.Held.{LockedUpTo}
use Rattle.dashmap.proofs.set.DashSet.retain.Given as goal

-- the shards below one were held, one after another
abbrev pub invariant-loop-shard : goal.invariant-loop-shard
invariant-loop-shard g l = goal.F-IsAlwaysCallable g l.f
    × LockedUpTo g.Q.Evidence.held l.fn.self (λ p q. Walked (AtFull (KeepsKey g.F.FnMut)) (length p.1.slots) p q)
    l.shard (l.fn.td, l.fn.f) (l.td, l.f) × (l.shard ≤ length l.fn.self.locks)
