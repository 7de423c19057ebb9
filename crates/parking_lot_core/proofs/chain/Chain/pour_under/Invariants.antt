use Rattle.std.proofs.Common.{◌≡◌, length}
use Rattle.parking_lot_core.specs.Waits.{onto, under}
use Rattle.parking_lot_core.proofs.chain.Chain.pour_under.Given as goal

abbrev pub invariant-loop-first : goal.invariant-loop-first
invariant-loop-first g l = onto (under l.key l.self) l.to
    ≡ onto (under l.key l.initial.self) l.initial.to

abbrev pub decreases-loop-first : goal.decreases-loop-first
decreases-loop-first g l = length l.self
