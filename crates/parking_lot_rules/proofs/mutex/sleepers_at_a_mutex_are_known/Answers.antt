use Rattle.parking_lot_rules.specs.MutexLaws.{SleepersAreKnown}
use Rattle.parking_lot_rules.proofs.MutexRuns.{always}
use Rattle.parking_lot_rules.proofs.MutexFollowing.{sleepers_are_known}
use Rattle.parking_lot_rules.proofs.mutex.sleepers_at_a_mutex_are_known.Goals as goal

pub returns : goal.returns
returns c = always SleepersAreKnown sleepers_are_known
