use Rattle.parking_lot_machine.proofs.RwMoving.{words_are_numbers}
use Rattle.parking_lot_machine.proofs.rw_laws.words_are_numbers.Goals as goal

pub returns : goal.returns
returns c = words_are_numbers
