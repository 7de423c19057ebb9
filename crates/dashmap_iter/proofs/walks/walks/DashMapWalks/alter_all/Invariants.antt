use Rattle.std.proofs.Common.{◌≡◌, ◌+◌, ◌≤◌, ℕ, length}
use Rattle.std.specs.Sync.RwLock.{write_guard_value}
use Rattle.dashmap_iter.specs.Walks.Visits.{Walked, AtFull, Alters}
use Rattle.dashmap_iter.proofs.WalksFacts.Holding.{HoldsAfter}
use Rattle.dashmap_iter.proofs.walks.walks.DashMapWalks.alter_all.Given as goal

-- the shard before this one is held, and those below it were, one after another
abbrev pub invariant-loop-shard : goal.invariant-loop-shard
invariant-loop-shard g l = goal.F-IsAlwaysCallable g l.f
    × (n : ℕ) × (l.shard ≡ n + 1)
    × HoldsAfter g.Q.Evidence.held l.fn.self (λ p q. Walked (AtFull (Alters g.F.FnMut)) (length p.1.slots) p q) n
    (l.fn.td, l.fn.f) l.held.held.0.place.now l.held.from.value l.held.before.value (write_guard_value l.held.inner) l.f
    × (l.held.to.value ≡ l.td) × (l.shard ≤ length l.fn.self.locks)
