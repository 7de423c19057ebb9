use Rattle.dashmap_view.proofs.ParallelFacts.Gathering.{joined-more}
use Rattle.dashmap_view.proofs.parallel.join.joined.Goals as goal

pub loop-list-preserved : goal.loop-list-preserved
loop-list-preserved g c = joined-more c.loop-list.yielded c.loop-list.all.items c.append.new.self.items c.in-Some.list
    c.in_ok-list.list c.in_ok-list.was c.in_ok-append.ensures.items c.loop-list.invariant
