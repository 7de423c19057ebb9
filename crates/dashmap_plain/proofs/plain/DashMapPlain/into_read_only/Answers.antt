use Rattle.std.proofs.Common.{sym, ap, subst, ◌∙◌}
use Rattle.dashmap_map.specs.Owner.{EachOf}
use Rattle.dashmap_view.specs.Views.{AreRouted}
use Rattle.dashmap_plain.specs.Opened.{Opened}
use Rattle.dashmap_plain.proofs.Regained.{same_map}
use Rattle.dashmap_plain.proofs.plain.DashMapPlain.into_read_only.Goals as goal

pub returns-in-Err-clause-displaced : goal.returns-in-Err-clause-displaced
returns-in-Err-clause-displaced g c =
    let refused = c.in-Err.ensures.displaced in
    let put = g.Q.OwnerEvidence.put in
    let tables = c.of.result.plain.tables in
    let back = c.into_map.ensures ∙ refused.0 in
    let again = c.into_map-in-Err.ensures in (
      c.new.ensures
          ∙ same_map c.into_map-in-Err.result c.args.self
          (again.locks
          ∙ (ap (λ (o : Opened g.row.K.Denot g.row.V.Denot g.row.S.Denot g.row.Q.Denot). o.locks) back
          ∙ c.of.ensures.locks))
          (again.hasher
          ∙ (ap (λ (o : Opened g.row.K.Denot g.row.V.Denot g.row.S.Denot g.row.Q.Denot). o.plain.hasher) back
          ∙ c.of.ensures.hasher)),
      tables,
      c.of.ensures.taken,
      subst (λ ls. EachOf put ls tables) c.of.ensures.locks
          (subst (λ (o : Opened g.row.K.Denot g.row.V.Denot g.row.S.Denot g.row.Q.Denot). EachOf put o.locks
          o.plain.tables) back again.put),
      λ all. refused.1 (subst
          (λ s. AreRouted g.S.BuildHasher g.S.Hasher.Hasher g.K.Hash.hash_input s tables)
          (sym c.of.ensures.hasher) all),
    )
