use Rattle.std.proofs.Common.{subst}
use Rattle.std.specs.List.{AllZip}
use Rattle.std.proofs.lemmas.Result.{IfOk-weaker}
use Rattle.dashmap_view.specs.Views.{all_pairs}
use Rattle.dashmap_parallel.proofs.Gathering.{AllZip-weaker}
use Rattle.dashmap.specs.Set.Parallel.{MakesOfKey}
use Rattle.dashmap.proofs.rayon.set.owned.OwningIter.map_collect.Goals as goal

pub returns : goal.returns
returns g c =
    IfOk-weaker c.map_collect.result _ _
    (λ v h.
    subst (λ tables. AllZip (λ p. MakesOfKey g.F.Fn c.args.f p.0) (all_pairs tables) v.items) c.self.view_is
    (AllZip-weaker _ (λ p. MakesOfKey g.F.Fn c.args.f p.0) (λ p r made. made.met) _ v.items h))
    c.map_collect.ensures
