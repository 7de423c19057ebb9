use Rattle.std.specs.Prelude.{All}
use Rattle.dashmap_table.specs.Slots.{pairs_of}
use Rattle.dashmap_view.specs.Parallel.Calls.{MakesOf}
use Rattle.dashmap_view.proofs.parallel.visit.hand_each.Given as goal

-- what is left to give is all that is left to be called for
abbrev pub invariant-loop-key : goal.invariant-loop-key
invariant-loop-key g l = All (λ p. MakesOf g.F.Fn l.f p tt) l.pairs
    → All (λ p. MakesOf g.F.Fn l.f p tt) (pairs_of l.fn.shard.slots)
