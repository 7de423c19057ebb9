use Rattle.parking_lot_machine_waits.proofs.Movers.{somebody_can_move}
use Rattle.parking_lot_machine_waits.proofs.laws.somebody_can_move.Goals as goal

pub returns : goal.returns
returns c = somebody_can_move c.awake_can_move.ensures c.somebody_can_move.ensures
