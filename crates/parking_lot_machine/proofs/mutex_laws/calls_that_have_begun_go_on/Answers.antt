use Rattle.parking_lot_machine.proofs.Beginning.{goes_on}
use Rattle.parking_lot_machine.proofs.mutex_laws.calls_that_have_begun_go_on.Goals as goal

pub returns : goal.returns
returns c = goes_on
