use Rattle.std.proofs.Common.{subst}
use Rattle.std.specs.List.{AllZip}
use Rattle.std.specs.Sync.RwLock.{read_guard_value}
use Rattle.std.proofs.lemmas.Result.{IfOk-weaker}
use Rattle.dashmap_table.specs.Slots.{pairs_of}
use Rattle.dashmap_view.specs.Parallel.Calls.{AnswersOf}
use Rattle.dashmap_parallel.specs.Visits.{WhileShared}
use Rattle.dashmap_parallel.proofs.behind.answers_behind.Goals as goal

pub returns : goal.returns
returns g c =
    IfOk-weaker c.answers_of.result
    (λ v. AllZip (AnswersOf g.F.Fn c.args.f.now) (pairs_of c.deref.result.now.slots) v.items)
    (λ v. WhileShared g.Q.Evidence.showed c.args.lock.now
    (λ table. AllZip (AnswersOf g.F.Fn c.args.f.now) (pairs_of table.slots) v.items))
    (λ v h. (
      c.args.td.now,
      c.read_shown-guard.new.party,
      read_guard_value c.read_shown-guard.result.inner,
      c.read_shown-guard.ensures.showed,
      subst (λ table. AllZip (AnswersOf g.F.Fn c.args.f.now) (pairs_of table.slots) v.items) c.deref.ensures h,
    ))
    c.answers_of.ensures
