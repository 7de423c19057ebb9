use Rattle.parking_lot_machine.proofs.TellActs.{laws}
use Rattle.parking_lot_machine.proofs.tell_laws.tells_are_steps.Goals as goal

pub returns : goal.returns
returns c = laws
