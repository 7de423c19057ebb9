use Rattle.parking_lot_machine.proofs.RwWaking.{woken_are_told}
use Rattle.parking_lot_machine.proofs.rw_laws.woken_are_told.Goals as goal

pub returns : goal.returns
returns c = woken_are_told
