use Rattle.parking_lot_machine_sides.proofs.CondvarFacts.Promising.{replies_fit}
use Rattle.parking_lot_machine_sides.proofs.condvar.laws.replies_fit_their_calls.Goals as goal

pub returns : goal.returns
returns c = replies_fit
