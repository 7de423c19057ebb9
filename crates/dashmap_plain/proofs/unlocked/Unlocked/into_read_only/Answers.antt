use Rattle.std.proofs.Common.{sym, ap, subst, ◌∙◌}
use Rattle.dashmap_table.specs.Shards.{Tables}
use Rattle.dashmap_view.specs.Views.{AreRouted}
use Rattle.dashmap_plain.proofs.Regained.{same_parts}
use Rattle.dashmap_plain.proofs.unlocked.Unlocked.into_read_only.Goals as goal

pub returns-in-Err-clause-displaced : goal.returns-in-Err-clause-displaced
returns-in-Err-clause-displaced g c =
    let taken = c.into_parts-shards.ensures in
    let refused = c.in-Err.ensures.displaced in
    let back = c.into_map-shards.ensures ∙ refused.0 in
    let plain = c.of_parts-in-Err.ensures.plain in (
      c.new.ensures
          ∙ same_parts c.of_parts-in-Err.result c.args.self
          (ap (λ (t : Tables g.row.K.Denot g.row.V.Denot g.row.S.Denot). t.tables) plain
          ∙ (ap (λ p. p.0.items) back ∙ taken.shards))
          (ap (λ (t : Tables g.row.K.Denot g.row.V.Denot g.row.S.Denot). t.hasher) plain
          ∙ (ap (λ p. p.1) back ∙ taken.hasher))
          (c.of_parts-in-Err.ensures.locks ∙ taken.locks),
      λ all. refused.1 (subst
          (λ s. AreRouted g.S.BuildHasher g.S.Hasher.Hasher g.K.Hash.hash_input s c.into_parts-shards.result.0.items)
          (sym taken.hasher)
          (subst (AreRouted g.S.BuildHasher g.S.Hasher.Hasher g.K.Hash.hash_input c.args.self.plain.hasher)
          (sym taken.shards) all)),
    )
