use Rattle.std.proofs.Common.{subst}
use Rattle.std.specs.Prelude.{All}
use Rattle.dashmap_view.specs.Views.{all_pairs}
use Rattle.dashmap.specs.Set.Parallel.{MakesOfKey}
use Rattle.dashmap.proofs.rayon.set.owned.OwningIter.for_each.Goals as goal

pub returns : goal.returns
returns g c =
    subst (λ tables. All (λ p. MakesOfKey g.F.Fn c.args.f p.0 (tt {0})) (all_pairs tables)) c.self.view_is
    (λ k d lt. (c.for_each.ensures k d lt).met)
