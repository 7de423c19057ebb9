use Rattle.std.proofs.Common.{refl, ap, sym, ◌∙◌}
use Rattle.std.specs.Option.{option_map}
use Rattle.std.proofs.lemmas.Option.{same_Some}
use Rattle.std.proofs.Common.{subst}
use Rattle.dashmap_table.specs.Slots.{pair_of}
use Rattle.dashmap_view.proofs.Walking.{value_of}
use Rattle.dashmap_view.specs.Parallel.Calls.{LeavesOf}
use Rattle.dashmap_view.proofs.parallel.visit.write_at.Goals as goal

pub returns : goal.returns
returns g c =
    let there = value_of _ c.requires.full in
    let shown = same_Some _ _ (sym (ap (option_map pair_of) there.1) ∙ c.lend-value.ensures.pair) in
    record {
      entry = there.0;
      full = there.1;
      left = c.lend_to.new.value;
      leaves = subst (λ p. LeavesOf g.F.Fn c.args.f.now p c.lend_to.new.value) (sym shown) c.lend_to.ensures;
      after = refl;
    }
