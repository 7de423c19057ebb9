use Rattle.std.proofs.Common.{◌∙◌, arith}
use Rattle.dashmap_iter.specs.Walks.Visits.{AtFull}
use Rattle.dashmap.specs.Set.Walks.{KeepsKey}
use Rattle.dashmap_iter.proofs.WalksFacts.Walking.{next_full, none_from, walked_next, walked_to, passes_free}
use Rattle.dashmap_iter.proofs.WalksFacts.Walking.{full_within}
use Rattle.dashmap.proofs.set.walks.retain_in.Goals as goal

pub loop-slot-preserved : goal.loop-slot-preserved
loop-slot-preserved g c =
    let next = next_full c.loop-slot.shard.slots c.loop-slot.from _ c.in-Some.slot c.in-Some.is c.next_from.ensures in
    let within = full_within c.loop-slot.shard.slots c.in-Some.slot next.full in
    let there = walked_to (AtFull (KeepsKey g.F.FnMut)) c.loop-slot.from c.in-Some.slot (c.args.f, c.args.shard.now)
    (c.loop-slot.f, c.loop-slot.shard) next.above c.loop-slot.invariant.1
    (λ i low high. passes_free (KeepsKey g.F.FnMut) (c.loop-slot.f, c.loop-slot.shard) i (next.first i low high)) in (
      c.keep_slot-f.ensures.again,
      walked_next (AtFull (KeepsKey g.F.FnMut)) c.in-Some.slot _ _ _ there
          c.keep_slot-f.ensures.visit,
      c.keep_slot-f.ensures.slots ∙ c.loop-slot.invariant.2,
      omega (arith, within, c.loop-slot.invariant.2),
    )

pub returns-clause-each : goal.returns-clause-each
returns-clause-each g c =
    walked_to (AtFull (KeepsKey g.F.FnMut)) c.loop-slot.from _ (c.args.f, c.args.shard.now)
    (c.loop-slot.f, c.loop-slot.shard) c.loop-slot.invariant.3 c.loop-slot.invariant.1
    (λ i low high. passes_free (KeepsKey g.F.FnMut) (c.loop-slot.f, c.loop-slot.shard) i
    (none_from c.loop-slot.shard.slots c.loop-slot.from _ c.in_default.is c.next_from.ensures i low))
