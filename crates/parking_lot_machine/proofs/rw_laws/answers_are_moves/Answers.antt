use Rattle.parking_lot_machine.proofs.RwMoving.{answers_are_moves}
use Rattle.parking_lot_machine.proofs.rw_laws.answers_are_moves.Goals as goal

pub returns : goal.returns
returns c = answers_are_moves
