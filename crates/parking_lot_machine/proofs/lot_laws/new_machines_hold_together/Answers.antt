use Rattle.parking_lot_machine.proofs.LotStarts.{new_machines_fit, registered_threads_run}
use Rattle.parking_lot_machine.proofs.lot_laws.new_machines_hold_together.Goals as goal

pub returns : goal.returns
returns c = record { fit = new_machines_fit; run = registered_threads_run }
