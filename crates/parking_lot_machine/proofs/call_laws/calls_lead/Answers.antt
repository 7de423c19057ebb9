use Rattle.parking_lot_machine.proofs.CallLawsFacts.Leading.{calls_lead}
use Rattle.parking_lot_machine.proofs.call_laws.calls_lead.Goals as goal

pub returns : goal.returns
returns c = calls_lead
