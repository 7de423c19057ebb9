use Rattle.parking_lot_machine_waits.proofs.Movers.{somebody_inside_goes}
use Rattle.parking_lot_machine_waits.proofs.laws.somebody_inside_goes.Goals as goal

pub returns : goal.returns
returns c = somebody_inside_goes c.awake_can_move.ensures c.somebody_can_move.ensures
