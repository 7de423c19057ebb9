use Rattle.parking_lot_machine_waits.proofs.LeavingTurns.{steps_leave}
use Rattle.parking_lot_machine_waits.proofs.laws.steps_leave_the_rest.Goals as goal

pub returns : goal.returns
returns c = steps_leave
