use Rattle.std.proofs.Common.{sym, subst}
use Rattle.std.specs.Prelude.{All}
use Rattle.std.proofs.lemmas.List.Elements.{All-cons}
use Rattle.dashmap_view.specs.Parallel.Calls.{MakesOf}
use Rattle.dashmap_view.proofs.parallel.visit.hand_each.Goals as goal

pub loop-key-preserved : goal.loop-key-preserved
loop-key-preserved g c =
    (λ rest. c.loop-key.invariant (subst (All (λ p. MakesOf g.F.Fn c.args.f.now p tt)) (sym c.in-Some.ensures.steps)
    (All-cons (λ p. MakesOf g.F.Fn c.args.f.now p tt) (c.in-Some.key, c.in-Some.value) _ (record { met = c.f.ensures })
    rest)))
