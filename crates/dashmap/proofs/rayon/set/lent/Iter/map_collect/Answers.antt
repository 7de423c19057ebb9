use Rattle.std.proofs.Common.{subst}
use Rattle.std.specs.List.{AllZip}
use Rattle.std.proofs.lemmas.Result.{IfOk-weaker}
use Rattle.crossbeam_utils.specs.Padded.{padded_value}
use Rattle.dashmap_table.specs.Slots.{pairs_of}
use Rattle.dashmap_parallel.specs.Visits.{WhileShared, GatheredFrom}
use Rattle.dashmap_parallel.proofs.Gathering.{AllZip-weaker}
use Rattle.dashmap.specs.Set.Parallel.{AnswersOfKey}
use Rattle.dashmap.proofs.rayon.set.lent.Iter.map_collect.Goals as goal

pub returns : goal.returns
returns g c =
    IfOk-weaker c.map_collect.result _ _
    (λ v h.
    subst (λ ls. GatheredFrom {K = g.row.K.Denot} {V = Unit {0}} g.Q.Evidence.showed
    (λ table. AllZip (λ p. AnswersOfKey g.F.Fn c.args.f p.0) (pairs_of table.slots)) ls v.items)
    c.self.view_is (
      h.0,
      AllZip-weaker _
          (λ lock part. WhileShared {K = g.row.K.Denot} {V = Unit {0}} g.Q.Evidence.showed (padded_value lock)
          (λ table. AllZip (λ p. AnswersOfKey g.F.Fn c.args.f p.0) (pairs_of table.slots) part))
          (λ lock part held. (
            held.0,
            held.1,
            held.2,
            held.3,
            AllZip-weaker _ (λ p. AnswersOfKey g.F.Fn c.args.f p.0)
                (λ p r asked. subst (λ key. AnswersOfKey g.F.Fn c.args.f key r) asked.shows.0 asked.says.met) _ part
                held.4,
          )) _ h.0 h.1,
      h.2,
    ))
    c.map_collect.ensures
