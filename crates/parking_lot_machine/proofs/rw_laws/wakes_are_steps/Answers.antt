use Rattle.parking_lot_machine.proofs.RwWaking.{wakes_are_steps}
use Rattle.parking_lot_machine.proofs.rw_laws.wakes_are_steps.Goals as goal

pub returns : goal.returns
returns c = wakes_are_steps
