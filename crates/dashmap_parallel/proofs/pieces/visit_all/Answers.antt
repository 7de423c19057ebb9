use Rattle.std.proofs.Common.{subst, arith, refl}
use Rattle.std.specs.Prelude.{All}
use Rattle.std.proofs.lemmas.List.{take_all}
use Rattle.std.proofs.lemmas.List.Elements.{All-more}
use Rattle.dashmap_parallel.specs.Visits.{VisitsBy}
use Rattle.dashmap_parallel.proofs.pieces.visit_all.Goals as goal

pub loop-item-preserved : goal.loop-item-preserved
loop-item-preserved g c =
    All-more (VisitsBy g.F.Fn c.args.f.now) c.args.items.now c.loop-item.item-index c.item-item.result (omega arith)
    c.loop-item.invariant
    (subst (VisitsBy g.F.Fn c.args.f.now) c.item-item.is
    (record { item = _; shows = refl; party = _; left = _; says = record { met = c.f.ensures } }))

pub returns : goal.returns
returns g c = subst (All (VisitsBy g.F.Fn c.args.f.now))
    (take_all c.loop-item.item-index c.args.items.now (omega arith)) c.loop-item.invariant
