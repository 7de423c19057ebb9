use Rattle.mapworld_explorer.specs.Outcomes.{by_threads, AreRepliesTold}
use Rattle.mapworld_explorer.proofs.outcome.Outcome.of.Given as goal

-- what the threads so far were answered is told
abbrev pub invariant-loop-thread : goal.invariant-loop-thread
invariant-loop-thread l = AreRepliesTold (by_threads l.thread l.world.replies) l.answers.items
