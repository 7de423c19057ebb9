use Rattle.std.proofs.Common.{◌≡◌, ◌≤◌, ◌-◌, ◌^◌, length, drop}
use Rattle.dashmap_table.specs.Slots.{pairs_of}
use Rattle.dashmap_view.specs.Parallel.Calls.{AnswersOf}
use Rattle.std.specs.Prelude.{All}
use Rattle.dashmap_view.proofs.parallel.visit.visit_each.Given as goal

-- so much is done as stands in the slots below one
abbrev pub invariant-loop-slot : goal.invariant-loop-slot
invariant-loop-slot g l =
    (All (λ p. AnswersOf g.F.Fn l.f p tt) (pairs_of (drop l.from l.shard.slots)) → All (λ p. AnswersOf g.F.Fn l.f p tt)
    (pairs_of l.shard.slots))

abbrev pub decreases-loop-slot : goal.decreases-loop-slot
decreases-loop-slot g l = 2 ^ 64 - l.from
