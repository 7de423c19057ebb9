use Rattle.parking_lot_protocol.proofs.MutexFollowing.{follows}
use Rattle.parking_lot_protocol.proofs.mutex_core.MutexCore.next.Goals as goal

pub returns-clause-rules : goal.returns-clause-rules
returns-clause-rules c = follows _ _
