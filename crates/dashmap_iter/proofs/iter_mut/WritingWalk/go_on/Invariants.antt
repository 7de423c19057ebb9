use Rattle.std.proofs.Common.{ℕ, ◌-◌, length}
use Rattle.dashmap_iter.specs.Lending.{Passes}
use Rattle.dashmap_iter.proofs.iter_mut.WritingWalk.go_on.Given as goal

-- the walk went on by some shards, in which no pair is left
abbrev pub invariant-loop-self : goal.invariant-loop-self
invariant-loop-self g l =
    (passed : ℕ) × Passes g.K.PartialEq.eq (λ h. g.W.Lender.part h.inner) (λ h. g.H.Hold.lock_of h.held.0)
    g.L.GivesShards.seen passed l.initial.self l.self

abbrev pub decreases-loop-self : goal.decreases-loop-self
decreases-loop-self g l = length l.self.locks - l.self.next
