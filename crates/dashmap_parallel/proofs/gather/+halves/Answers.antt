use Rattle.std.proofs.Common.{◌∷◌, ◌++◌, [], drop, refl, sym, ap, ◌∙◌}
use Rattle.std.proofs.lemmas.List.{take-append-drop}
use Rattle.dashmap_parallel.proofs.Gathering.{made-one, made-joined}
use Rattle.dashmap_parallel.proofs.gather.+halves.Goals as goal

pub returns-then-pieces-eq1 : goal.returns-then-pieces-eq1
returns-then-pieces-eq1 g t c =
    made-one g.F.Fn c.args.f.now c.args.items.now c.f.result c.push.new.self.items
    (c.in_ok-push.ensures.items ∙ ap (λ l. l ++ c.f.result ∷ []) c.new-one.ensures.items)
    (record { items = _; shows = refl; party = _; left = _; says = record { met = c.f.ensures } })

pub returns : goal.returns
returns g t c =
    made-joined g.F.Fn c.args.f.now c.one_after.result c.join-first.result.0 c.join-first.result.1 c.args.items.now
    c.split_at.result.0.now c.split_at.result.1.now
    (let n = c.first_of.result in sym (take-append-drop n c.args.items.now) ∙ ap (λ l. l ++ drop n c.args.items.now)
    (sym c.split_at.ensures.front) ∙ ap (λ l. c.split_at.result.0.now ++ l) (sym c.split_at.ensures.back))
    c.one_after.ensures c.join-first.ensures.first c.join-first.ensures.second
