use Rattle.std.proofs.Common.{ap, ◌∙◌, map}
use Rattle.dashmap_view.specs.Views.{all_pairs}
use Rattle.dashmap_plain.specs.Opened.{Opened}
use Rattle.dashmap_plain.proofs.read_only.ReadOnlyView.values.Goals as goal

pub returns : goal.returns
returns g c =
    c.values.ensures ∙ ap
    (λ (o : Opened g.row.K.Denot g.row.V.Denot g.row.S.Denot g.row.Q.Denot). map (λ p. p.1)
    (all_pairs o.plain.tables)) c.self.view_is
