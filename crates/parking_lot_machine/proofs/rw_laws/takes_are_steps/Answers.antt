use Rattle.parking_lot_machine.proofs.RwTaking.{takes_are_steps}
use Rattle.parking_lot_machine.proofs.rw_laws.takes_are_steps.Goals as goal

pub returns : goal.returns
returns c = takes_are_steps
