use Rattle.parking_lot_rules.specs.MutexLaws.{NothingIsLeft}
use Rattle.parking_lot_rules.proofs.MutexRuns.{always}
use Rattle.parking_lot_rules.proofs.MutexFollowing.{nothing_is_left}
use Rattle.parking_lot_rules.proofs.mutex.no_bit_of_a_mutex_outlives_the_calls.Goals as goal

pub returns : goal.returns
returns c = always NothingIsLeft nothing_is_left
