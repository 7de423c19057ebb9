use Rattle.std.proofs.Common.{subst, slice_index_or}
use Rattle.dashmap_view.specs.Parallel.Calls.{WritesEach}
use Rattle.dashmap_view.proofs.ParallelFacts.Writing.{zip-by-index}
use Rattle.dashmap_view.proofs.parallel.written.par_write.Goals as goal

pub returns : goal.returns
returns g c =
    zip-by-index (WritesEach g.F.Fn c.args.f) c.args.shards.now c.par_for_each_mut.new.s c.par_for_each_mut.auto.s
    (λ k d lt.
    let at = (c.par_for_each_mut.ensures k d lt).1 in
    subst (λ new. WritesEach g.F.Fn c.args.f (slice_index_or c.args.shards.now k d) new) at.left
    (subst (λ old. WritesEach g.F.Fn c.args.f old at.after_call.now) at.argument_is at.call))
