use Rattle.parking_lot_machine.proofs.RequeueCases.{laws}
use Rattle.parking_lot_machine.proofs.requeue.moves_are_cases.Goals as goal

pub returns : goal.returns
returns c = laws
