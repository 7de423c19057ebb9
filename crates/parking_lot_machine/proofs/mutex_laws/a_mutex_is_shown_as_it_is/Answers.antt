use Rattle.parking_lot_machine.proofs.MutexTelling.{shown}
use Rattle.parking_lot_machine.proofs.mutex_laws.a_mutex_is_shown_as_it_is.Goals as goal

pub returns : goal.returns
returns c = shown
