use Rattle.std.proofs.Common.{rules, ◌+◌, get_or, arith}
use Rattle.std.proofs.lemmas.List.Sorted.{answers_always}
use Rattle.dashmap_record.proofs.HistoryFacts.Sorting.{not_less}
use Rattle.dashmap_record.proofs.history.gathering.sort.Goals as goal

pub returns-clause-sorted : goal.returns-clause-sorted
returns-clause-sorted g c k d within =
    let falls = c.sort_unstable_by_key.ensures.sorted (λ e. (e.stamp, e.shard))
    (answers_always _ _ _ (λ f a r q called. search rules)) in
    let a = get_or c.sort_unstable_by_key.new.self (k + 1) d in
    let b = get_or c.sort_unstable_by_key.new.self k d in
    not_less a.stamp b.stamp a.shard b.shard (falls k d (omega arith) within)
