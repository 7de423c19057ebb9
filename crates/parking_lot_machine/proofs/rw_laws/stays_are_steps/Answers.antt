use Rattle.parking_lot_machine.proofs.RwMoving.{stays_are_steps}
use Rattle.parking_lot_machine.proofs.rw_laws.stays_are_steps.Goals as goal

pub returns : goal.returns
returns c = stays_are_steps
