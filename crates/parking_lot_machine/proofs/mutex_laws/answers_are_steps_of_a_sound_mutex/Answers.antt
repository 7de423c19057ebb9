use Rattle.parking_lot_machine.proofs.MutexMoving.{steps}
use Rattle.parking_lot_machine.proofs.mutex_laws.answers_are_steps_of_a_sound_mutex.Goals as goal

pub returns : goal.returns
returns c = steps
