use Rattle.parking_lot_protocol_waits.proofs.NotifyFollowing.{follows}
use Rattle.parking_lot_protocol_waits.proofs.notify_core.NotifyCore.next.Goals as goal

pub returns-clause-rules : goal.returns-clause-rules
returns-clause-rules c = follows _ _
