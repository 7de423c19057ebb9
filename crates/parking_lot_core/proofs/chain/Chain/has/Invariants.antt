use Rattle.std.proofs.Common.{◌≡◌}
use Rattle.parking_lot_core.specs.Waits.{items, fits, any}
use Rattle.parking_lot_core.proofs.chain.Chain.has.Given as goal

abbrev pub invariant-loop-at : goal.invariant-loop-at
invariant-loop-at g l = any (fits l.wanted) (items l.at) ≡ any (fits l.wanted) l.self
