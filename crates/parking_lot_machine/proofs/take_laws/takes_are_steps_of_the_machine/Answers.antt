use Rattle.parking_lot_machine.proofs.TakeLaws.{laws}
use Rattle.parking_lot_machine.proofs.take_laws.takes_are_steps_of_the_machine.Goals as goal

pub returns : goal.returns
returns c = laws
