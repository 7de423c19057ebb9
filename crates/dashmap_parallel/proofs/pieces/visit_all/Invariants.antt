use Rattle.std.proofs.Common.{take}
use Rattle.std.specs.Prelude.{All}
use Rattle.dashmap_parallel.specs.Visits.{VisitsBy}
use Rattle.dashmap_parallel.proofs.pieces.visit_all.Given as goal

-- the items so far are visited
abbrev pub invariant-loop-item : goal.invariant-loop-item
invariant-loop-item g l = All (VisitsBy g.F.Fn l.f) (take l.item-index l.items)
