use Rattle.parking_lot_machine_waits.proofs.Owning.{ends_owning}
use Rattle.parking_lot_machine_waits.proofs.laws.waits_end_owning.Goals as goal

pub returns : goal.returns
returns c = ends_owning
