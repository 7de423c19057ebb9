use Rattle.parking_lot_machine_waits.proofs.Casing.{steps_are_cases}
use Rattle.parking_lot_machine_waits.proofs.laws.each_step_is_a_case.Goals as goal

pub returns : goal.returns
returns c = steps_are_cases c.moves_are_cases.ensures
