use Rattle.parking_lot_rules.specs.MutexOwners.{StepsAreCases}
use Rattle.parking_lot_rules.proofs.MutexRuns.{always}
use Rattle.parking_lot_rules.proofs.MutexCasing.{steps_are_cases}
use Rattle.parking_lot_rules.proofs.mutex.each_step_at_a_mutex_is_a_case.Goals as goal

pub returns : goal.returns
returns c = always StepsAreCases steps_are_cases
