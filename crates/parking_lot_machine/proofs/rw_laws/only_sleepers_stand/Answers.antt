use Rattle.parking_lot_machine.proofs.RwWaking.{only_sleepers_stand}
use Rattle.parking_lot_machine.proofs.rw_laws.only_sleepers_stand.Goals as goal

pub returns : goal.returns
returns c = only_sleepers_stand
