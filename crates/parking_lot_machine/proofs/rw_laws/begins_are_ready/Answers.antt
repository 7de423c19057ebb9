use Rattle.parking_lot_machine.proofs.RwTaking.{begins_are_ready}
use Rattle.parking_lot_machine.proofs.rw_laws.begins_are_ready.Goals as goal

pub returns : goal.returns
returns c = begins_are_ready
