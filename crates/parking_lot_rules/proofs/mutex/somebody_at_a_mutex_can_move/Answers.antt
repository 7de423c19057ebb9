use Rattle.parking_lot_rules.specs.MutexLaws.{SomebodyCanMove}
use Rattle.parking_lot_rules.proofs.MutexRuns.{always}
use Rattle.parking_lot_rules.proofs.MutexFollowing.{somebody_can_move}
use Rattle.parking_lot_rules.proofs.mutex.somebody_at_a_mutex_can_move.Goals as goal

pub returns : goal.returns
returns c = always SomebodyCanMove somebody_can_move
