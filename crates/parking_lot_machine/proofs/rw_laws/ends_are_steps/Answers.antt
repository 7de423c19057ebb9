use Rattle.parking_lot_machine.proofs.RwTaking.{ends_are_steps}
use Rattle.parking_lot_machine.proofs.rw_laws.ends_are_steps.Goals as goal

pub returns : goal.returns
returns c = ends_are_steps
