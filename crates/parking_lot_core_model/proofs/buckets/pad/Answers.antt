use Rattle.std.proofs.Common.{◌≡◌, ◌∙◌, ◌+◌, ◌≤◌, None, length, ap, arith}
use Rattle.std.proofs.lemmas.List.{length_push}
use Rattle.parking_lot_core_model.specs.Buckets.{slot}
use Rattle.parking_lot_core_model.proofs.Slots.{slot_push}
use Rattle.parking_lot_core_model.proofs.buckets.pad.Goals as goal

pub loop-at-preserved : goal.loop-at-preserved
loop-at-preserved g c = record {
  slots = ap slot c.push_reserved.ensures.items ∙ (slot_push c.loop-at.list.items ∙ c.loop-at.invariant.slots);
  long = ap length c.push_reserved.ensures.items
      ∙ (length_push c.loop-at.list.items None ∙ ap (λ n. n + 1) c.loop-at.invariant.long);
  room = omega arith;
}
