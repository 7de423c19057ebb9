use Rattle.std.proofs.Common.{◌≡◌}
use Rattle.parking_lot_core.specs.Waits.{items, meet}
use Rattle.parking_lot_core.specs.Lines.{waits}
use Rattle.parking_lot_core.proofs.chain.Chain.meets.Given as goal

abbrev pub invariant-loop-at : goal.invariant-loop-at
invariant-loop-at g l = meet (items l.at) (waits l.line) ≡ meet l.self (waits l.line)
