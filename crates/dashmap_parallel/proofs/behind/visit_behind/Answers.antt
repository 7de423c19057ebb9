use Rattle.std.proofs.Common.{subst}
use Rattle.std.specs.Prelude.{All}
use Rattle.std.specs.Sync.RwLock.{read_guard_value}
use Rattle.dashmap_table.specs.Slots.{pairs_of}
use Rattle.dashmap_view.specs.Parallel.Calls.{AnswersOf}
use Rattle.dashmap_parallel.proofs.behind.visit_behind.Goals as goal

pub returns : goal.returns
returns g c = (
  c.args.td.now,
  c.read_shown-guard.new.party,
  read_guard_value c.read_shown-guard.result.inner,
  c.read_shown-guard.ensures.showed,
  subst (λ table. All (λ p. AnswersOf g.F.Fn c.args.f.now p tt) (pairs_of table.slots)) c.deref.ensures
      c.visit_each.ensures,
)
