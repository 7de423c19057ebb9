use Rattle.dashmap_table.specs.Slots.{pairs_of}
use Rattle.dashmap_view.specs.Parallel.Calls.{MakesOf}
use Rattle.dashmap_view.proofs.ParallelFacts.Gathering.{Gathers}
use Rattle.dashmap_view.proofs.parallel.visit.made_of.Given as goal

-- so much is gathered as was given
abbrev pub invariant-loop-key : goal.invariant-loop-key
invariant-loop-key g l = Gathers (MakesOf g.F.Fn l.f) (pairs_of l.fn.shard.slots) l.pairs l.answers.items
