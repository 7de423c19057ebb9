use Rattle.parking_lot_machine.proofs.Serving.{somebody_can_move}
use Rattle.parking_lot_machine.proofs.sound_laws.somebody_can_move.Goals as goal

pub returns : goal.returns
returns c = somebody_can_move
