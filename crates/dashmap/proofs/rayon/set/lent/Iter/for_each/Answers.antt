use Rattle.std.proofs.Common.{subst}
use Rattle.std.specs.Prelude.{All}
use Rattle.crossbeam_utils.specs.Padded.{padded_value}
use Rattle.dashmap_table.specs.Slots.{pairs_of}
use Rattle.dashmap_parallel.specs.Visits.{WhileShared}
use Rattle.dashmap.specs.Set.Parallel.{AnswersOfKey}
use Rattle.dashmap.proofs.rayon.set.lent.Iter.for_each.Goals as goal

pub returns : goal.returns
returns g c =
    subst (All (λ lock. WhileShared {K = g.row.K.Denot} {V = Unit {0}} g.Q.Evidence.showed (padded_value lock)
    (λ table. All (λ p. AnswersOfKey g.F.Fn c.args.f p.0 (tt {0})) (pairs_of table.slots)))) c.self.view_is
    (λ k d lt.
    let held = c.for_each.ensures k d lt in (
      held.0,
      held.1,
      held.2,
      held.3,
      λ i e within. let asked = held.4 i e within in
          subst (λ key. AnswersOfKey g.F.Fn c.args.f key (tt {0})) asked.shows.0 asked.says.met,
    ))
