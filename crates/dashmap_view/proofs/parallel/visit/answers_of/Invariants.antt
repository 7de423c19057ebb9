use Rattle.std.proofs.Common.{◌≡◌, ◌≤◌, ◌-◌, ◌^◌, length, drop}
use Rattle.dashmap_table.specs.Slots.{pairs_of}
use Rattle.dashmap_view.specs.Parallel.Calls.{AnswersOf}
use Rattle.dashmap_view.proofs.ParallelFacts.Gathering.{Gathers}
use Rattle.dashmap_view.proofs.parallel.visit.answers_of.Given as goal

-- so much is done as stands in the slots below one
abbrev pub invariant-loop-slot : goal.invariant-loop-slot
invariant-loop-slot g l = Gathers (AnswersOf g.F.Fn l.f) (pairs_of l.shard.slots) (pairs_of (drop l.from l.shard.slots))
    l.answers.items

abbrev pub decreases-loop-slot : goal.decreases-loop-slot
decreases-loop-slot g l = 2 ^ 64 - l.from
