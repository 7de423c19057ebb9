use Rattle.std.proofs.Common.{take}
use Rattle.std.specs.List.{AllZip}
use Rattle.dashmap_table.specs.Slots.{pairs_of}
use Rattle.dashmap_view.specs.Parallel.Calls.{AnswersOf}
use Rattle.dashmap_parallel.specs.Visits.{GatheredFrom}
use Rattle.dashmap_parallel.proofs.gather.answers_in_piece.Given as goal

-- what was gathered so far is of the locks so far
abbrev pub invariant-loop-lock : goal.invariant-loop-lock
invariant-loop-lock g l = GatheredFrom g.Q.Evidence.showed
    (λ table. AllZip (AnswersOf g.F.Fn l.f) (pairs_of table.slots)) (take l.lock-index l.locks) l.all.items
