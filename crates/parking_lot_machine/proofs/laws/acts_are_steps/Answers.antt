use Rattle.parking_lot_machine.proofs.Acting.{laws}
use Rattle.parking_lot_machine.proofs.laws.acts_are_steps.Goals as goal

pub returns : goal.returns
returns c = laws
