use Rattle.std.proofs.Common.{sym, ◌∙◌, subst, IfOk}
use Rattle.std.specs.List.{AllZip, flat_map}
use Rattle.std.proofs.lemmas.Result.{IfOk-weaker}
use Rattle.dashmap_table.specs.Slots.{pairs_of}
use Rattle.dashmap_view.specs.Parallel.Calls.{AnswersOf}
use Rattle.dashmap_parallel.specs.Visits.{GatheredFrom}
use Rattle.dashmap_parallel.proofs.Gathering.{AllZip-weaker, gathered-pieces, all-ok}
use Rattle.dashmap_parallel.proofs.lent.SharedIter.map_collect.Goals as goal

pub returns : goal.returns
returns g c =
    let h = c.in_ok-lists.ensures in
    let lists = c.in_ok-lists.lists.items in
    let each = AllZip-weaker _
    (λ cut r. IfOk r (λ v. GatheredFrom g.Q.Evidence.showed
    (λ table. AllZip (AnswersOf g.F.Fn c.args.f) (pairs_of table.slots)) cut v.items))
    (λ cut r m. subst (λ xs. IfOk r
    (λ v. GatheredFrom g.Q.Evidence.showed
    (λ table. AllZip (AnswersOf g.F.Fn c.args.f) (pairs_of table.slots)) xs v.items)) m.shows m.says.met) h.0 lists
    h.1 in
    IfOk-weaker c.joined.result _ _
    (λ v is.
    subst (λ xs. GatheredFrom g.Q.Evidence.showed
    (λ table. AllZip (AnswersOf g.F.Fn c.args.f) (pairs_of table.slots)) xs v.items) (sym h.2 ∙ c.self.view_is)
    (subst (λ l. GatheredFrom g.Q.Evidence.showed
    (λ table. AllZip (AnswersOf g.F.Fn c.args.f) (pairs_of table.slots)) (flat_map (λ l. l) h.0) l) (sym is.2)
    (gathered-pieces g.Q.Evidence.showed
    (λ table. AllZip (AnswersOf g.F.Fn c.args.f) (pairs_of table.slots)) h.0 is.0
    (all-ok (λ cut l. GatheredFrom g.Q.Evidence.showed
    (λ table. AllZip (AnswersOf g.F.Fn c.args.f) (pairs_of table.slots)) cut l.items) h.0 lists is.0 is.1 each))))
    c.joined.ensures
