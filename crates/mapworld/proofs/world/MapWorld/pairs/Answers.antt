use Rattle.std.proofs.Common.{◌∙◌}
use Rattle.mapworld.proofs.Viewing.{seen-pairs}
use Rattle.mapworld.proofs.world.MapWorld.pairs.Goals as goal

pub returns : goal.returns
returns g c = rw (← c.self.view_is) (c.new.ensures
    ∙ (rw c.deref.ensures.value (seen-pairs c.self.inside.core.tables.items)))
