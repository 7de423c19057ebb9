use Rattle.parking_lot_rules.specs.Laws.{SomebodyCanMove}
use Rattle.parking_lot_rules.proofs.Running.{always}
use Rattle.parking_lot_rules.proofs.Following.{somebody_can_move}
use Rattle.parking_lot_rules.proofs.laws.somebody_can_move.Goals as goal

pub returns : goal.returns
returns c = always SomebodyCanMove somebody_can_move
