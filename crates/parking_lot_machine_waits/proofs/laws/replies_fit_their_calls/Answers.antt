use Rattle.parking_lot_machine_waits.proofs.Replying.{replies_fit}
use Rattle.parking_lot_machine_waits.proofs.laws.replies_fit_their_calls.Goals as goal

pub returns : goal.returns
returns c = replies_fit c.replies_fit_their_calls.ensures
