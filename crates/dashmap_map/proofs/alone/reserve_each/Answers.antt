use Rattle.std.proofs.Common.{rules, ◌≡◌, ◌≤◌, length, ap, ◌∙◌, subst, inl, inr, slice_index_or, arith}
use Rattle.std.proofs.lemmas.Bool.{cases_lt}
use Rattle.std.proofs.lemmas.Result.{err_from_is_err_and}
use Rattle.crossbeam_utils.specs.Padded.{padded_value}
use Rattle.dashmap_map.specs.Owner.{Alone, LacksRoom, Reserves}
use Rattle.dashmap_map.proofs.alone.reserve_each.Goals as goal

pub loop-shard-preserved : goal.loop-shard-preserved
loop-shard-preserved g c =
    let same = c.loop-shard.invariant.0 in (
      c.reserve_at.ensures.locks ∙ same,
      λ k d low high. elim (cases_lt k c.loop-shard.shard) [
        | inl below ↦ c.loop-shard.invariant.1 k d low below
        | inr le ↦
            let here : c.loop-shard.shard ≡ k = omega (arith, high, le) in
            let at = ap (λ ls. padded_value (slice_index_or ls c.loop-shard.shard d)) same
            ∙ ap (λ i. padded_value (slice_index_or c.args.locks.now i d)) here in
            subst (Alone g.Q.OwnerEvidence.taken g.Q.OwnerEvidence.put (Reserves g.K.PartialEq.eq c.args.additional))
            at (c.in_ok-reserve_at.ensures.evidence d)
      ],
    )

pub returns-in_err-reserve_at-clause-refused : goal.returns-in_err-reserve_at-clause-refused
returns-in_err-reserve_at-clause-refused g c =
    let p = err_from_is_err_and c.from_residual.result c.from_residual.ensures.1 in
    let same = c.loop-shard.invariant.0 in
    rw p.1 (record {
      n = c.loop-shard.shard;
      below = omega (arith, c.loop-shard-test.true, ap length same);
      before = c.loop-shard.invariant.1;
      here = λ d. subst (λ ls. Alone g.Q.OwnerEvidence.taken g.Q.OwnerEvidence.put (LacksRoom c.args.additional)
          (padded_value (slice_index_or ls c.loop-shard.shard d))) same (c.in_err-reserve_at.ensures.evidence d);
    })

pub returns-clause-made : goal.returns-clause-made
returns-clause-made g c = λ k d lt.
    let same = ap length c.loop-shard.invariant.0 in
    let done : length c.loop-shard.locks ≤ c.loop-shard.shard = search rules in
    c.loop-shard.invariant.1 k d (omega arith) (omega (arith, lt, same, done))
