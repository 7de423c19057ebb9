use Rattle.parking_lot_machine.proofs.RwCrossing.{acts_cross}
use Rattle.parking_lot_machine.proofs.rw_laws.acts_cross.Goals as goal

pub returns : goal.returns
returns c = acts_cross
