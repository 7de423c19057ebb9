use Rattle.parking_lot_machine.proofs.RwWaking.{tokens_say}
use Rattle.parking_lot_machine.proofs.rw_laws.tokens_say.Goals as goal

pub returns : goal.returns
returns c = tokens_say
