use Rattle.std.proofs.Common.{refl, ap, sym, ◌∙◌}
use Rattle.std.specs.Option.{option_map}
use Rattle.dashmap_view.proofs.parallel.visit.answer_at.Goals as goal

pub returns : goal.returns
returns g c =
    let shown = sym c.pair.ensures ∙ ap (option_map (λ p. (p.0.now, p.1.now))) c.in-Some.is in (
      (c.in-Some.key.now, c.in-Some.value.now),
      shown,
      record {
        key = c.in-Some.key;
        value = c.in-Some.value;
        shows = (refl, refl);
        says = record { met = c.f.ensures };
      },
    )
