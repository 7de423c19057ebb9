use Rattle.parking_lot_protocol_waits.proofs.WaitFollowing.{follows}
use Rattle.parking_lot_protocol_waits.proofs.wait_core.WaitCore.next.Goals as goal

pub returns-clause-rules : goal.returns-clause-rules
returns-clause-rules c = follows _ _
