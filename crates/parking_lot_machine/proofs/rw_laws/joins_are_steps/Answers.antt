use Rattle.parking_lot_machine.proofs.RwMoving.{joins_are_steps}
use Rattle.parking_lot_machine.proofs.rw_laws.joins_are_steps.Goals as goal

pub returns : goal.returns
returns c = joins_are_steps
