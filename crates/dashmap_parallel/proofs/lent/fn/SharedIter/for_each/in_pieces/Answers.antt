use Rattle.std.proofs.Common.{subst}
use Rattle.std.specs.Prelude.{All}
use Rattle.dashmap_table.specs.Slots.{pairs_of}
use Rattle.dashmap_view.specs.Parallel.Calls.{AnswersOf}
use Rattle.dashmap_parallel.specs.Visits.{WhileShared}
use Rattle.dashmap_parallel.proofs.lent.fn.SharedIter.for_each.in_pieces.Goals as goal

pub returns : goal.returns
returns g c =
    subst (λ lock. WhileShared g.Q.Evidence.showed lock
    (λ table. All (λ p. AnswersOf g.F.Fn c.captures.f.now p tt) (pairs_of table.slots))) c.deref.ensures
    c.visit_behind.ensures
