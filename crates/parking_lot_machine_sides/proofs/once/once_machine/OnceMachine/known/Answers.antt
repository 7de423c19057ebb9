use Rattle.std.proofs.Common.{subst}
use Rattle.parking_lot_machine_sides.specs.Once.OnceFits.{Fits}
use Rattle.parking_lot_machine_sides.proofs.OnceFacts.Promising.{sound_machine}
use Rattle.parking_lot_machine_sides.proofs.once.once_machine.OnceMachine.known.Goals as goal

pub returns-clause-promises : goal.returns-clause-promises
returns-clause-promises g c = sound_machine c.args.self.now (subst Fits c.self.view_is c.self.invariant.0)
