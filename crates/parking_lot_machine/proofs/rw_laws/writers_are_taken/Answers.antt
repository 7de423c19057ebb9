use Rattle.parking_lot_machine.proofs.RwTaking.{writers_are_taken}
use Rattle.parking_lot_machine.proofs.rw_laws.writers_are_taken.Goals as goal

pub returns : goal.returns
returns c = writers_are_taken
