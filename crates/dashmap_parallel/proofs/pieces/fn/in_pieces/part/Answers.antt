use Rattle.std.proofs.Common.{subst}
use Rattle.std.specs.Prelude.{All}
use Rattle.dashmap_parallel.specs.Visits.{VisitsBy}
use Rattle.dashmap_parallel.proofs.pieces.fn.in_pieces.part.Goals as goal

pub returns : goal.returns
returns g c = subst (All (VisitsBy g.F.Fn c.captures.f.now)) c.items_of.ensures c.visit_all.ensures
