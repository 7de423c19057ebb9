use Rattle.parking_lot_machine_calls.proofs.Weighing.{weighed}
use Rattle.parking_lot_machine_calls.proofs.laws.modes_are_weighed.Goals as goal

pub returns : goal.returns
returns c = weighed
