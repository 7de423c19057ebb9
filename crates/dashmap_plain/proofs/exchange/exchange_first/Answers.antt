use Rattle.std.proofs.Common.{rules, ◌≡◌, ◌<◌, ◌+◌, suc, length, ap, ◌∙◌, subst, arith, slice_index_or, slice_set}
use Rattle.crossbeam_utils.specs.Padded.{padded_with_value}
use Rattle.dashmap_plain.specs.Exchanged.{Exchanged}
use Rattle.dashmap_plain.proofs.Exchanging.{exchanged_next, set_same}
use Rattle.dashmap_plain.proofs.exchange.exchange_first.Goals as goal

pub loop-number-preserved : goal.loop-number-preserved
loop-number-preserved g c =
    let taken = g.Q.OwnerEvidence.taken in
    let put = g.Q.OwnerEvidence.put in
    let n = c.loop-number.number in
    let locks = c.args.locks.now.items in
    let lock = c.index_mut.result.now in
    let was = c.index_mut-in-loop-number.result.now in
    let now = c.exchange-spare.new.plain in
    let done = c.exchange-spare.ensures in
    let value = c.deref_mut.ensures.value in
    let kept = c.loop-number.invariant in
    let here : n < length c.args.plain.now.items = search rules in
    let one : suc n ≡ n + 1 = omega arith in (
      ap (λ q. slice_set c.loop-number.locks.items n (padded_with_value lock q)) (done.lock ∙ value)
          ∙ (set_same c.loop-number.locks.items n lock c.index_mut.ensures.value ∙ kept.0),
      search rules,
      kept.2,
      kept.3,
      done.spare ∙ kept.4,
      search rules,
      subst (λ k. Exchanged taken put k locks c.args.plain.now.items (slice_set c.loop-number.plain.items n now)) one
          (exchanged_next taken put n locks c.args.plain.now.items c.loop-number.plain.items lock was now
          (omega (arith, here, c.requires)) (omega (arith, here, kept.1))
          (subst (λ ls. lock ≡ slice_index_or ls n lock) kept.0 c.index_mut.ensures.value)
          c.index_mut-in-loop-number.ensures.value (subst (λ q. taken q now) value done.taken)
          (subst (λ q. put q was) value done.put) kept.6),
    )
