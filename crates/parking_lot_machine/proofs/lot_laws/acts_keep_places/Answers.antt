use Rattle.parking_lot_machine.proofs.LotKept.{acts_keep_fits}
use Rattle.parking_lot_machine.proofs.WakesActs.{acts_keep_wakes}
use Rattle.parking_lot_machine.proofs.lot_laws.acts_keep_places.Goals as goal

pub returns : goal.returns
returns c = record { places = acts_keep_fits; wakes = acts_keep_wakes }
