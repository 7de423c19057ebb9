use Rattle.parking_lot_machine.proofs.RwCrossing.{free_sections_are_empty}
use Rattle.parking_lot_machine.proofs.rw_laws.free_sections_are_empty.Goals as goal

pub returns : goal.returns
returns c = free_sections_are_empty
