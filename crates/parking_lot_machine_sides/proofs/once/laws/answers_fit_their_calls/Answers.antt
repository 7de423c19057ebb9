use Rattle.parking_lot_machine_sides.proofs.OnceFacts.Lasting.{replies_fit}
use Rattle.parking_lot_machine_sides.proofs.once.laws.answers_fit_their_calls.Goals as goal

pub returns : goal.returns
returns c = replies_fit
