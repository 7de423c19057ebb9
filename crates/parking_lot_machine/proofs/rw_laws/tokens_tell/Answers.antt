use Rattle.parking_lot_machine.proofs.RwTaking.{tokens_tell}
use Rattle.parking_lot_machine.proofs.rw_laws.tokens_tell.Goals as goal

pub returns : goal.returns
returns c = tokens_tell
