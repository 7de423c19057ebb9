use Rattle.parking_lot_machine.proofs.Losing.{lost_exchanges_have_causes}
use Rattle.parking_lot_machine.proofs.sound_laws.lost_exchanges_have_causes.Goals as goal

pub returns : goal.returns
returns c = lost_exchanges_have_causes
