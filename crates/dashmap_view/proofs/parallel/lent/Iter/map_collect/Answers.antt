use Rattle.std.proofs.Common.{sym, ap, ◌∙◌, subst, IfOk}
use Rattle.std.specs.List.{AllZip}
use Rattle.rayon.specs.Lists.{iter_slice, min_len_base}
use Rattle.rayon.proofs.ToStd.{slice-AllZip}
use Rattle.rayon.proofs.ListFacts.{IfOk-then}
use Rattle.dashmap_table.specs.Slots.{pairs_of}
use Rattle.dashmap_view.specs.Views.{all_pairs}
use Rattle.dashmap_view.specs.Parallel.Calls.{AnswersOf}
use Rattle.dashmap_view.proofs.ParallelFacts.Gathering.{gathers-shards}
use Rattle.dashmap_view.proofs.parallel.lent.Iter.map_collect.Goals as goal

pub returns : goal.returns
returns g c =
    let h = c.in_ok-lists.ensures in
    let chain = h.1 in
    let shown = chain.1 ∙ ap (λ it. iter_slice (min_len_base it)) c.map.ensures.base
    ∙ ap iter_slice c.with_min_len.ensures.base ∙ c.par_iter.ensures ∙ c.self.view_is in
    let each = subst (λ fn. AllZip
    (λ z r. IfOk r (λ v. AllZip (AnswersOf g.F.Fn fn.0.now) (pairs_of z.now.slots) v.items)) chain.0 h.0)
    c.map.ensures.f chain.2 in
    let parts = slice-AllZip chain.0 c.args.self shown
    (λ t r. IfOk r (λ v. AllZip (AnswersOf g.F.Fn c.args.f) (pairs_of t.slots) v.items)) h.0 each in
    IfOk-then c.joined.result _ _ c.joined.ensures (λ v is.
    subst (AllZip (AnswersOf g.F.Fn c.args.f) (all_pairs c.args.self)) (sym is.2)
    (gathers-shards (AnswersOf g.F.Fn c.args.f) c.args.self is.0 h.0 (sym h.2 ∙ is.1) parts))
