use Rattle.parking_lot_protocol_waits.proofs.OnceFacts.OnceAnswering.{keeps_to_its_call}
use Rattle.parking_lot_protocol_waits.proofs.OnceFacts.OnceFollowing.{follows}
use Rattle.parking_lot_protocol_waits.proofs.once.once_core.OnceCore.next.Goals as goal

pub returns-clause-rules : goal.returns-clause-rules
returns-clause-rules c = follows _ _

pub returns-clause-answers : goal.returns-clause-answers
returns-clause-answers c = keeps_to_its_call _ _
