use Rattle.parking_lot_machine.proofs.Cases.{steps_are_cases_of_locks}
use Rattle.parking_lot_machine.proofs.sound_laws.each_step_is_a_case.Goals as goal

pub returns : goal.returns
returns c = steps_are_cases_of_locks
