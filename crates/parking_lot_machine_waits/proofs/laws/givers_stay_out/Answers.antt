use Rattle.parking_lot_machine_waits.proofs.Givers.{givers_stay_out}
use Rattle.parking_lot_machine_waits.proofs.laws.givers_stay_out.Goals as goal

pub returns : goal.returns
returns c = givers_stay_out
