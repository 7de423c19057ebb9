use Rattle.parking_lot_machine.proofs.RwWaking.{stores_are_steps}
use Rattle.parking_lot_machine.proofs.rw_laws.stores_are_steps.Goals as goal

pub returns : goal.returns
returns c = stores_are_steps
