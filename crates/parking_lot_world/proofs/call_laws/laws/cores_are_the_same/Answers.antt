use Rattle.parking_lot_world.proofs.CallLawsFacts.SameCores.{cores_are_the_same}
use Rattle.parking_lot_world.proofs.call_laws.laws.cores_are_the_same.Goals as goal

pub returns : goal.returns
returns c = cores_are_the_same
