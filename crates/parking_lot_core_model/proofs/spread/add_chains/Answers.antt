use Rattle.std.proofs.Common.{◌∙◌, ◌+◌, length, ap, arith, sym, subst}
use Rattle.std.proofs.lemmas.List.{length_push}
use Rattle.parking_lot_core_model.specs.Chains.{nobody, AreEmpty}
use Rattle.parking_lot_core_model.proofs.Spreading.{empty_push}
use Rattle.parking_lot_core_model.proofs.spread.add_chains.Goals as goal

pub loop-at-preserved : goal.loop-at-preserved
loop-at-preserved g c = record {
  empty = subst AreEmpty (sym c.push_reserved.ensures.items)
      (empty_push c.loop-at.heads.items c.loop-at.invariant.empty);
  long = ap length c.push_reserved.ensures.items
      ∙ (length_push c.loop-at.heads.items nobody ∙ ap (λ n. n + 1) c.loop-at.invariant.long);
  room = omega arith;
}
