use Rattle.std.proofs.Common.{arith, length, None}
use Rattle.parking_lot_core_model.proofs.Links.{walk_few}
use Rattle.parking_lot_core_model.proofs.chains.walk.Goals as goal

pub returns-clause-few : goal.returns-clause-few
returns-clause-few c = let h = walk_few c.args.nodes.now (length c.args.nodes.now) None c.args.first in omega (arith, h)
