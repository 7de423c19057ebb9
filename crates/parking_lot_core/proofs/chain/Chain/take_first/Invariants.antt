use Rattle.std.proofs.Common.{◌≡◌, length, ◌++◌}
use Rattle.parking_lot_core.specs.Waits.{onto, fits, without, found}
use Rattle.parking_lot_core.proofs.chain.Chain.take_first.Given as goal

abbrev pub invariant-loop-first : goal.invariant-loop-first
invariant-loop-first g l =
    (onto l.passed (without (fits l.wanted) l.self) ≡ without (fits l.wanted) l.initial.self)
    × (found (fits l.wanted) l.self ++ l.to
    ≡ found (fits l.wanted) l.initial.self ++ l.initial.to)

abbrev pub decreases-loop-first : goal.decreases-loop-first
decreases-loop-first g l = length l.self
