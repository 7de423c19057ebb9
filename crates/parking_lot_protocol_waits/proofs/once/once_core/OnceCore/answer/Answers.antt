use Rattle.parking_lot_protocol_waits.proofs.OnceFacts.OnceAnswering.{ends_by_an_answer}
use Rattle.parking_lot_protocol_waits.proofs.once.once_core.OnceCore.answer.Goals as goal

pub returns-clause-ends : goal.returns-clause-ends
returns-clause-ends c = ends_by_an_answer _
