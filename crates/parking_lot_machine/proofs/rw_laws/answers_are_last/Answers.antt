use Rattle.parking_lot_machine.proofs.RwTaking.{answers_are_last}
use Rattle.parking_lot_machine.proofs.rw_laws.answers_are_last.Goals as goal

pub returns : goal.returns
returns c = answers_are_last
