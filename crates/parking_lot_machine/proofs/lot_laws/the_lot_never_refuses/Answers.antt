use Rattle.parking_lot_machine.proofs.LotCalls.{lot_never_refuses}
use Rattle.parking_lot_machine.proofs.ScanRoom.{scans_have_room}
use Rattle.parking_lot_machine.proofs.lot_laws.the_lot_never_refuses.Goals as goal

pub returns : goal.returns
returns c = record { calls = lot_never_refuses; room = scans_have_room }
