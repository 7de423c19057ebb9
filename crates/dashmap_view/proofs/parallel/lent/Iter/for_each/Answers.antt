use Rattle.std.proofs.Common.{sym, ap, ◌∙◌}
use Rattle.std.specs.Prelude.{All}
use Rattle.rayon.specs.Lists.{iter_slice}
use Rattle.rayon.proofs.ToStd.{slice-AllZip}
use Rattle.dashmap_table.specs.Slots.{pairs_of}
use Rattle.dashmap_view.specs.Parallel.Calls.{AnswersOf}
use Rattle.dashmap_view.proofs.ParallelFacts.Gathering.{all-shards}
use Rattle.dashmap_view.proofs.parallel.lent.Iter.for_each.Goals as goal

pub returns : goal.returns
returns g c =
    let chain = c.for_each.ensures in
    let shown = chain.2 ∙ ap iter_slice c.with_min_len.ensures.base ∙ c.par_iter.ensures ∙ c.self.view_is in
    all-shards (λ p. AnswersOf g.F.Fn c.args.f p tt) c.args.self chain.1
    (slice-AllZip chain.0 c.args.self shown (λ t u. All (λ p. AnswersOf g.F.Fn c.args.f p tt) (pairs_of t.slots))
    chain.1 chain.3)
