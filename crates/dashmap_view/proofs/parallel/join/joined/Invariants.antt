use Rattle.dashmap_view.specs.Parallel.Calls.{AreJoined}
use Rattle.dashmap_view.proofs.parallel.join.joined.Given as goal

-- the lists so far stand one behind another
abbrev pub invariant-loop-list : goal.invariant-loop-list
invariant-loop-list g l = AreJoined l.yielded l.all.items
