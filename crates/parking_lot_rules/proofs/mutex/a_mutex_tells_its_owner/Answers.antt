use Rattle.parking_lot_rules.specs.MutexLaws.{MutexTells}
use Rattle.parking_lot_rules.proofs.MutexRuns.{always}
use Rattle.parking_lot_rules.proofs.MutexFollowing.{mutex_tells}
use Rattle.parking_lot_rules.proofs.mutex.a_mutex_tells_its_owner.Goals as goal

pub returns : goal.returns
returns c = always MutexTells mutex_tells
