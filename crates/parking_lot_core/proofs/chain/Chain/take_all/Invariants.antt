use Rattle.std.proofs.Common.{◌≡◌, length}
use Rattle.parking_lot_core.specs.Waits.{onto, fits, every, others}
use Rattle.parking_lot_core.proofs.chain.Chain.take_all.Given as goal

abbrev pub invariant-loop-first : goal.invariant-loop-first
invariant-loop-first g l =
    (onto l.passed (others (fits l.wanted) l.self) ≡ others (fits l.wanted) l.initial.self)
    × (onto (every (fits l.wanted) l.self) l.to
    ≡ onto (every (fits l.wanted) l.initial.self) l.initial.to)

abbrev pub decreases-loop-first : goal.decreases-loop-first
decreases-loop-first g l = length l.self
