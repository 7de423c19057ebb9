use Rattle.std.proofs.Common.{refl}
use Rattle.dashmap.proofs.rayon.set.lent.fn.Iter.map_collect.map_collect.Goals as goal

pub returns : goal.returns
returns g c = record { key = c.args.key; shows = refl; says = record { met = c.f.ensures } }
