use Rattle.parking_lot_machine.proofs.RwKeeping.{calls_keep}
use Rattle.parking_lot_machine.proofs.rw_laws.calls_keep.Goals as goal

pub returns : goal.returns
returns c = calls_keep
