use Rattle.std.proofs.Common.{rules, ◌≡◌, false, get_or, sym, ◌∙◌, ap, subst, IfOk, IfErr}
use Rattle.std.specs.List.{list_any}
use Rattle.std.proofs.lemmas.List.Sorted.{answers_always}
use Rattle.dashmap_record.specs.History.Entries.{same_entry}
use Rattle.dashmap_record.proofs.HistoryFacts.Lists.{Rises}
use Rattle.dashmap_record.proofs.HistoryFacts.Rising.{stamp_of}
use Rattle.dashmap_record.proofs.HistoryFacts.Equal.{same-stamp}
use Rattle.dashmap_record.proofs.HistoryFacts.Searching.{searched, list_is, list_rises}
use Rattle.dashmap_record.proofs.history.matching.is_in.Goals as goal

pub returns-in-Ok : goal.returns-in-Ok
returns-in-Ok g c =
    let same = same_entry g.K.PartialEq.eq g.V.PartialEq.eq in
    let there = c.in-Some.ensures.lookup.3 in
    let list = list_is (λ l. l.items) c.args.lists.now c.args.number c.in-Some.list.now there.0 there.1 in
    let up = list_rises (λ l. l.items) c.args.lists.now c.args.number c.in-Some.list.now there.0 there.1 c.requires in
    let facts = c.binary_search_by_key.ensures in
    let by_key = facts.position (λ e. e.stamp) (answers_always _ _ _ (λ f a r q called. search rules)) in
    let result = searched same (same-stamp g.K.PartialEq.eq g.V.PartialEq.eq) c.deref.result.now
    (subst (Rises stamp_of) (sym c.deref.ensures.value) up) c.args.entry.now c.binary_search_by_key.result
    facts.bound by_key in
    let hit = subst (λ r. IfOk r
    (λ at. (d : _) → d ≡ get_or c.deref.result.now at d → list_any (same c.args.entry.now) c.deref.result.now ≡ same
    c.args.entry.now d)) c.in-Ok.is result.hit in
    c.same_entry.ensures
    ∙ (sym (hit c.index.result.now
    (c.index.ensures ∙ ap (λ es. get_or es c.in-Ok.at c.index.result.now) (sym c.deref.ensures.value)))
    ∙ ap (list_any (same c.args.entry.now)) (c.deref.ensures.value ∙ sym list))

pub returns-in-Err : goal.returns-in-Err
returns-in-Err g c =
    let same = same_entry g.K.PartialEq.eq g.V.PartialEq.eq in
    let there = c.in-Some.ensures.lookup.3 in
    let list = list_is (λ l. l.items) c.args.lists.now c.args.number c.in-Some.list.now there.0 there.1 in
    let up = list_rises (λ l. l.items) c.args.lists.now c.args.number c.in-Some.list.now there.0 there.1 c.requires in
    let facts = c.binary_search_by_key.ensures in
    let by_key = facts.position (λ e. e.stamp) (answers_always _ _ _ (λ f a r q called. search rules)) in
    let result = searched same (same-stamp g.K.PartialEq.eq g.V.PartialEq.eq) c.deref.result.now
    (subst (Rises stamp_of) (sym c.deref.ensures.value) up) c.args.entry.now c.binary_search_by_key.result
    facts.bound by_key in
    let miss = subst (λ r. IfErr r (λ _. list_any (same c.args.entry.now) c.deref.result.now ≡ false)) c.in-Err.is
    result.miss in
    sym miss ∙ ap (list_any (same c.args.entry.now)) (c.deref.ensures.value ∙ sym list)
