use Rattle.std.proofs.Common.{subst}
use Rattle.parking_lot_machine_waits.specs.JointProgress.{GiversAreOut}
use Rattle.parking_lot_machine_waits.proofs.wait_machine.WaitMachine.known.Goals as goal

pub returns-clause-givers : goal.returns-clause-givers
returns-clause-givers g c = subst GiversAreOut c.self.view_is c.self.invariant.1
