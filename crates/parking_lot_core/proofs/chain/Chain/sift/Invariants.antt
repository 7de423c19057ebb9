use Rattle.std.proofs.Common.{length}
use denote.Param.Always.{always_mut}
use Rattle.parking_lot_core.proofs.Sifts.{Sifting}
use Rattle.parking_lot_core.proofs.chain.Chain.sift.Given as goal

-- those so far were shown
abbrev pub invariant-loop-first : goal.invariant-loop-first
invariant-loop-first g l = always_mut g.F.FnMut l.filter × Sifting (goal.F-step g) l.fn.filter l.key
    l.initial.self l.initial.to l.filter l.self l.passed l.to

abbrev pub decreases-loop-first : goal.decreases-loop-first
decreases-loop-first g l = length l.self
