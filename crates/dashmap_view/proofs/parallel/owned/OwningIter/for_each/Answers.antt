use Rattle.std.proofs.Common.{sym, ap, ◌∙◌, subst}
use Rattle.std.specs.Prelude.{All}
use Rattle.std.specs.List.{AllZip}
use Rattle.rayon.specs.Lists.{vec_items}
use Rattle.dashmap_table.specs.Slots.{pairs_of}
use Rattle.dashmap_view.specs.Parallel.Calls.{MakesOf}
use Rattle.dashmap_view.proofs.ParallelFacts.Gathering.{all-shards}
use Rattle.dashmap_view.proofs.parallel.owned.OwningIter.for_each.Goals as goal

pub returns : goal.returns
returns g c =
    let chain = c.for_each.ensures in
    let shown = chain.2 ∙ ap vec_items c.with_min_len.ensures.base ∙ c.into_par_iter.ensures ∙ c.self.view_is in
    all-shards (λ p. MakesOf g.F.Fn c.args.f p tt) c.args.self chain.1
    (subst (λ ts. AllZip (λ t u. All (λ p. MakesOf g.F.Fn c.args.f p tt) (pairs_of t.slots)) ts chain.1) shown chain.3)
