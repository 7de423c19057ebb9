use Rattle.std.proofs.Common.{◌≡◌, ◌≤◌, ◌-◌, ◌^◌, length}
use Rattle.dashmap_view.proofs.ParallelFacts.Writing.{WritesBelow}
use Rattle.dashmap_view.proofs.parallel.visit.write_each.Given as goal

-- the slots below one are written, and there are as many as there were
abbrev pub invariant-loop-slot : goal.invariant-loop-slot
invariant-loop-slot g l =
    WritesBelow g.F.Fn l.f l.from l.initial.shard l.shard × (l.shard.room ≡ l.initial.shard.room)
    × (length l.shard.slots ≡ length l.initial.shard.slots)

abbrev pub decreases-loop-slot : goal.decreases-loop-slot
decreases-loop-slot g l = 2 ^ 64 - l.from
