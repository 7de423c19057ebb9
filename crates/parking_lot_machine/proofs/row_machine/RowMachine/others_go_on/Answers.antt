use Rattle.parking_lot_machine.specs.Rows.{state}
use Rattle.parking_lot_machine.proofs.WakesPaying.{any_may_be_stepped}
use Rattle.parking_lot_machine.proofs.row_machine.RowMachine.others_go_on.Goals as goal

pub returns : goal.returns
returns g c = any_may_be_stepped (state c.args.self.now) c.known.ensures c.args.thread
