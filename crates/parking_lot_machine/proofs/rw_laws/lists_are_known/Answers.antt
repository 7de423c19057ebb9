use Rattle.parking_lot_machine.proofs.RwCrossing.{lists_are_known}
use Rattle.parking_lot_machine.proofs.rw_laws.lists_are_known.Goals as goal

pub returns : goal.returns
returns c = lists_are_known
