use Rattle.std.proofs.Common.{take, ◌+◌, refl, sym, subst, arith}
use Rattle.std.specs.List.{AllZip}
use Rattle.std.proofs.lemmas.List.{take_all}
use Rattle.dashmap_table.specs.Slots.{pairs_of}
use Rattle.dashmap_view.specs.Parallel.Calls.{AnswersOf}
use Rattle.dashmap_parallel.specs.Visits.{WhileShared, GatheredFrom}
use Rattle.dashmap_parallel.proofs.Gathering.{gathered-none, gathered-more}
use Rattle.dashmap_parallel.proofs.gather.answers_in_piece.Goals as goal

pub loop-lock-init : goal.loop-lock-init
loop-lock-init g c =
    gathered-none g.Q.Evidence.showed
    (λ table. AllZip (AnswersOf g.F.Fn c.args.f.now) (pairs_of table.slots)) (take 0 c.args.locks.now) _ refl
    c.new-all.ensures.items

pub loop-lock-preserved : goal.loop-lock-preserved
loop-lock-preserved g c =
    let locks = c.args.locks.now in
    let part = c.in_ok-part.part in
    let held = subst (λ lock. WhileShared g.Q.Evidence.showed lock
    (λ table. AllZip (AnswersOf g.F.Fn c.args.f.now) (pairs_of table.slots) part.items)) c.deref.ensures
    c.in_ok-part.ensures in
    subst (λ l. GatheredFrom g.Q.Evidence.showed
    (λ table. AllZip (AnswersOf g.F.Fn c.args.f.now) (pairs_of table.slots))
    (take (c.loop-lock.lock-index + 1) locks) l) (sym c.in_ok-append.ensures.items)
    (gathered-more g.Q.Evidence.showed
    (λ table. AllZip (AnswersOf g.F.Fn c.args.f.now) (pairs_of table.slots)) locks c.loop-lock.lock-index
    c.lock-item.result c.loop-lock.all.items part.items (omega arith) c.lock-item.is
    c.loop-lock.invariant held)

pub returns : goal.returns
returns g c =
    subst (λ ls. GatheredFrom g.Q.Evidence.showed
    (λ table. AllZip (AnswersOf g.F.Fn c.args.f.now) (pairs_of table.slots)) ls c.loop-lock.all.items)
    (take_all c.loop-lock.lock-index c.args.locks.now (omega arith)) c.loop-lock.invariant
