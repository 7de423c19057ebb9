use Rattle.std.proofs.Common.{subst}
use Rattle.parking_lot_machine_sides.specs.Condvar.Fitting.{Fits}
use Rattle.parking_lot_machine_sides.proofs.CondvarFacts.Promising.{promised}
use Rattle.parking_lot_machine_sides.proofs.condvar.condvar_machine.CondvarMachine.known.Goals as goal

pub returns-clause-promises : goal.returns-clause-promises
returns-clause-promises g c = promised c.args.self.now (subst Fits c.self.view_is c.self.invariant.0)
