use Rattle.std.proofs.Common.{ℕ, ◌-◌, length}
use Rattle.std.specs.Sync.RwLock.{read_guard_value}
use Rattle.dashmap_iter.specs.Lending.{Passes, by_some_wait}
use Rattle.dashmap_iter.proofs.iter.Iter.go_on.Given as goal

-- the walk went on by some shards, in which no pair is left
abbrev pub invariant-loop-self : goal.invariant-loop-self
invariant-loop-self g l =
    (passed : ℕ) × Passes g.K.PartialEq.eq (λ h. read_guard_value h.inner) (λ h. h.held.0.place.now)
    (by_some_wait g.Q.Evidence.showed) passed l.initial.self l.self

abbrev pub decreases-loop-self : goal.decreases-loop-self
decreases-loop-self g l = length l.self.locks - l.self.next
