use Rattle.parking_lot_machine_waits.proofs.MovingRuns.{moves_run}
use Rattle.parking_lot_machine_waits.proofs.laws.notifications_are_runs.Goals as goal

pub returns : goal.returns
returns c = moves_run c.moves_are_runs.ensures
