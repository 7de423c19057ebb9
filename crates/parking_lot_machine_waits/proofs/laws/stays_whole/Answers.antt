use Rattle.parking_lot_machine_waits.proofs.KeptWhole.{all_stays}
use Rattle.parking_lot_machine_waits.proofs.laws.stays_whole.Goals as goal

pub returns : goal.returns
returns c = all_stays c.owners_agree.ensures
