use Rattle.parking_lot_machine.proofs.RequeueRuns.{laws}
use Rattle.parking_lot_machine.proofs.requeue.requeues_are_runs.Goals as goal

pub returns : goal.returns
returns c = laws
