use Rattle.std.proofs.Common.{subst}
use Rattle.parking_lot_machine_sides.specs.Once.OnceFits.{Fits}
use Rattle.parking_lot_machine_sides.proofs.OnceFacts.Ranking.{any_may_be_stepped}
use Rattle.parking_lot_machine_sides.proofs.once.once_machine.OnceMachine.others_go_on.Goals as goal

pub returns : goal.returns
returns g c stuck = any_may_be_stepped c.args.self.now (subst Fits c.self.view_is c.self.invariant.0) c.args.thread
    stuck
