use Rattle.parking_lot_machine.proofs.MutexRoles.{words}
use Rattle.parking_lot_machine.proofs.mutex_laws.words_of_a_mutex_are_numbers.Goals as goal

pub returns : goal.returns
returns c = words
