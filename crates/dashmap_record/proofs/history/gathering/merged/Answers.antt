use Rattle.std.proofs.Common.{◌+◌, ◌<◌, ℕ, List, length, drop, get_or, sym, ◌∙◌, subst}
use Rattle.std.proofs.lemmas.List.Sorted.{length_permutation}
use Rattle.dashmap_record.specs.declared.history.entry.Entered.{Entered}
use Rattle.dashmap_record.specs.History.Merge.{IsUpTo}
use Rattle.dashmap_record.proofs.HistoryFacts.Sorting.{front}
use Rattle.dashmap_record.proofs.history.gathering.merged.Goals as goal

pub returns-clause-sorted : goal.returns-clause-sorted
returns-clause-sorted g c =
    subst (λ (es : List (Entered g.row.K.Denot g.row.V.Denot)). (k : ℕ) (d : Entered g.row.K.Denot g.row.V.Denot)
    → k + 1 < length es → IsUpTo (get_or es k d) (get_or es (k + 1) d))
    (sym (front c.in_ok-all.all.len c.sort.new.entries (drop (length c.sort.new.entries) c.in_ok-all.all.items)
    (sym c.deref_mut.ensures.len
    ∙ sym (length_permutation c.deref_mut.result.now c.sort.new.entries c.sort.ensures.moved))))
    c.sort.ensures.sorted
