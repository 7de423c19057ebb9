use Rattle.std.proofs.Common.{refl, sym, ◌∙◌}
use Rattle.dashmap_parallel.proofs.Giving.{took-one}
use Rattle.dashmap_parallel.proofs.gifts.given_one.Goals as goal

pub returns : goal.returns
returns g c =
    took-one g.F.Fn c.args.f.now c.args.item.now c.in-Some.item c.args.parties.now _ _ _ c.f.result
    (sym c.take.ensures.value ∙ c.in-Some.is) c.requires.some.0 refl (record { met = c.f.ensures })
