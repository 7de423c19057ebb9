use Rattle.parking_lot_machine.proofs.Indebting.{awake_can_move}
use Rattle.parking_lot_machine.proofs.sound_laws.awake_can_move.Goals as goal

pub returns : goal.returns
returns c = awake_can_move
