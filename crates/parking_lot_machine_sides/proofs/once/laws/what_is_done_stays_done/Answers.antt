use Rattle.parking_lot_machine_sides.proofs.OnceFacts.Lasting.{done_stays}
use Rattle.parking_lot_machine_sides.proofs.once.laws.what_is_done_stays_done.Goals as goal

pub returns : goal.returns
returns c = done_stays
