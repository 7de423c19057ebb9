use Rattle.parking_lot_machine.proofs.RequeueMoves.{laws}
use Rattle.parking_lot_machine.proofs.requeue.moves_are_runs.Goals as goal

pub returns : goal.returns
returns c = laws
