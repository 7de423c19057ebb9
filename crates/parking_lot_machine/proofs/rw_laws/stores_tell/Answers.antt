use Rattle.parking_lot_machine.proofs.RwTelling.{stores_tell}
use Rattle.parking_lot_machine.proofs.rw_laws.stores_tell.Goals as goal

pub returns : goal.returns
returns c = stores_tell
