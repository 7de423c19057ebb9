use Rattle.parking_lot_machine.proofs.NextTaken.{nexts_taken}
use Rattle.parking_lot_machine.proofs.lot_laws.nexts_are_taken.Goals as goal

pub returns : goal.returns
returns g c = nexts_taken _ _
