use Rattle.std.proofs.Common.{◌≡◌, ◌+◌, length}
use Rattle.parking_lot_core.specs.Waits.{items}
use Rattle.parking_lot_core.proofs.chain.Chain.count.Given as goal

abbrev pub invariant-loop-at : goal.invariant-loop-at
invariant-loop-at g l = l.count + length (items l.at) ≡ length l.self
