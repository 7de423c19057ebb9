use Rattle.parking_lot_protocol.proofs.RwFollowing.{follows}
use Rattle.parking_lot_protocol.proofs.rw_core.RwCore.next.Goals as goal

pub returns-clause-rules : goal.returns-clause-rules
returns-clause-rules c = follows _ _
