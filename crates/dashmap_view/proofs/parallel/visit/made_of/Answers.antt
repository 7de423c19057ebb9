use Rattle.dashmap_table.specs.Slots.{pairs_of}
use Rattle.dashmap_view.specs.Parallel.Calls.{MakesOf}
use Rattle.dashmap_view.proofs.ParallelFacts.Gathering.{gathers-all}
use Rattle.dashmap_view.proofs.parallel.visit.made_of.Goals as goal

pub returns : goal.returns
returns g c = gathers-all (MakesOf g.F.Fn c.args.f.now) (pairs_of c.args.shard.slots) c.loop-key.pairs
    c.loop-key.answers.items c.in_default.ensures.steps.0 c.loop-key.invariant
