use Rattle.std.proofs.Common.{◌≡◌, map, IfOk, ap, ◌∙◌, subst}
use Rattle.dashmap_view.specs.Views.{all_pairs}
use Rattle.mapworld.specs.Views.{shown}
use Rattle.mapworld.proofs.Viewing.{seen-pairs}
use Rattle.mapworld.proofs.world.MapWorld.contents.Goals as goal

pub returns : goal.returns
returns g c =
    rw (← c.self.view_is) (subst (λ l. IfOk c.pairs_in.result (λ pairs. map shown pairs.items ≡ l))
    (ap all_pairs c.deref.ensures.value ∙ seen-pairs c.self.inside.core.tables.items) c.pairs_in.ensures)
