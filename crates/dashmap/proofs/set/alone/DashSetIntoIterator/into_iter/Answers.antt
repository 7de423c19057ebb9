use Rattle.std.proofs.Common.{List, ap, subst, ◌∙◌}
use Rattle.std.specs.Prelude.{map}
use Rattle.dashmap_map.specs.Locked.{Locked}
use Rattle.dashmap_map.specs.Owner.{EachOf}
use Rattle.dashmap.proofs.set.alone.DashSetIntoIterator.into_iter.Goals as goal

pub returns : goal.returns
returns g c = record {
  into_iter_gives = (
    c.into_iter.ensures.0,
    subst (λ (m : Locked g.row.Q.Denot g.row.S.Denot). EachOf g.Q.OwnerEvidence.taken m.locks c.into_iter.ensures.0)
        c.self.view_is c.into_iter.ensures.1,
    c.of_pairs.ensures
        ∙ ap (λ (ps : List (g.row.K.Denot × Unit {0})). map (λ p. p.0) ps) c.into_iter.ensures.2,
  );
}
