use Rattle.parking_lot_machine.proofs.MutexPaying.{steps_fall}
use Rattle.parking_lot_machine.proofs.rank_laws.mutex_steps_fall.Goals as goal

pub returns : goal.returns
returns c = steps_fall
