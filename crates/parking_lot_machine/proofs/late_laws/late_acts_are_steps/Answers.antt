use Rattle.parking_lot_machine.proofs.LateActs.{laws}
use Rattle.parking_lot_machine.proofs.late_laws.late_acts_are_steps.Goals as goal

pub returns : goal.returns
returns c = laws
