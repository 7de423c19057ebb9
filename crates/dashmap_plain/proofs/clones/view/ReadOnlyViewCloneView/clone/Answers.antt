use Rattle.std.proofs.Common.{length, ap, ◌∙◌}
use Rattle.dashmap_table.specs.Shards.{Tables}
use Rattle.dashmap_view.specs.Clones.{IsCloneOf}
use Rattle.dashmap_plain.specs.Opened.{Opened}
use Rattle.dashmap_plain.proofs.ClonesFacts.Gathering.{zipped_long}
use Rattle.dashmap_plain.proofs.clones.view.ReadOnlyViewCloneView.clone.Goals as goal

pub returns-in_ok-map_of-in-Ok-clause-locks : goal.returns-in_ok-map_of-in-Ok-clause-locks
returns-in_ok-map_of-in-Ok-clause-locks g c =
    let as_many = zipped_long (IsCloneOf g.K.PartialEq.eq) c.plain.result.now.tables c.in-Ok.plain.tables
    c.in-Ok.ensures.shards in
    ap (λ (o : Opened g.row.K.Denot g.row.V.Denot g.row.S.Denot g.row.Q.Denot). length o.locks) c.into_view.ensures
    ∙ (c.in_ok-map_of-in-Ok.ensures.locks
    ∙ (ap length c.into_parts-shards.ensures.shards
    ∙ (as_many ∙ ap (λ (t : Tables g.row.K.Denot g.row.V.Denot g.row.S.Denot). length t.tables) c.plain.ensures)))
