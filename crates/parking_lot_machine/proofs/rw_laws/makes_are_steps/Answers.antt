use Rattle.parking_lot_machine.proofs.RwMoving.{makes_are_steps}
use Rattle.parking_lot_machine.proofs.rw_laws.makes_are_steps.Goals as goal

pub returns : goal.returns
returns c = makes_are_steps
