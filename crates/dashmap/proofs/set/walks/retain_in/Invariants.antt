use Rattle.std.proofs.Common.{◌≡◌, ◌≤◌, ◌-◌, ◌^◌, length}
use Rattle.dashmap_iter.specs.Walks.Visits.{Walked, AtFull}
use Rattle.dashmap.specs.Set.Walks.{KeepsKey}
use Rattle.dashmap.proofs.set.walks.retain_in.Given as goal

-- the slots below one were visited, and there are as many as there were
abbrev pub invariant-loop-slot : goal.invariant-loop-slot
invariant-loop-slot g l =
    goal.F-IsAlwaysCallable g l.f
    × Walked (AtFull (KeepsKey g.F.FnMut)) l.from (l.initial.f, l.initial.shard) (l.f, l.shard)
    × (length l.shard.slots ≡ length l.initial.shard.slots)
    × (l.from ≤ length l.initial.shard.slots)

abbrev pub decreases-loop-slot : goal.decreases-loop-slot
decreases-loop-slot g l = 2 ^ 64 - l.from
