use Rattle.std.proofs.Common.{refl}
use Rattle.dashmap_view.proofs.parallel.visit.lend_to.Goals as goal

pub returns : goal.returns
returns g c = record {
  key = c.args.key;
  value = _;
  shows = (refl, refl);
  left = _;
  says = record { met = c.f.ensures };
  leaves = refl;
}
