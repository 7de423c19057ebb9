use Rattle.std.proofs.Common.{subst}
use Rattle.std.specs.Prelude.{All}
use Rattle.crossbeam_utils.specs.Padded.{padded_value}
use Rattle.dashmap_table.specs.Slots.{pairs_of}
use Rattle.dashmap_view.specs.Parallel.Calls.{AnswersOf}
use Rattle.dashmap_parallel.specs.Visits.{WhileShared}
use Rattle.dashmap_parallel.proofs.lent.SharedIter.for_each.Goals as goal

pub returns : goal.returns
returns g c =
    subst (All (λ lock. WhileShared g.Q.Evidence.showed
    (padded_value lock) (λ table. All (λ p. AnswersOf g.F.Fn c.args.f p tt) (pairs_of table.slots)))) c.self.view_is
    (λ k d lt.
    let visit = c.in_pieces.ensures k d lt in
    subst (λ lock. WhileShared g.Q.Evidence.showed (padded_value lock)
    (λ table. All (λ p. AnswersOf g.F.Fn c.args.f p tt) (pairs_of table.slots))) visit.shows visit.says.met)
