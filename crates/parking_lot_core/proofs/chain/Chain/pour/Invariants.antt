use Rattle.std.proofs.Common.{◌≡◌, length}
use Rattle.parking_lot_core.specs.Waits.{onto}
use Rattle.parking_lot_core.proofs.chain.Chain.pour.Given as goal

abbrev pub invariant-loop-self : goal.invariant-loop-self
invariant-loop-self g l = onto l.self l.to ≡ onto l.initial.self l.initial.to

abbrev pub decreases-loop-self : goal.decreases-loop-self
decreases-loop-self g l = length l.self
