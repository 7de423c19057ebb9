use Rattle.std.proofs.Common.{rules, ◌≤◌, ◌+◌, ◌-◌, ◌^◌, length, sym, ap, subst, ◌∙◌}
use Rattle.std.specs.Prelude.{min}
use Rattle.dashmap_table.specs.Slots.{count}
use Rattle.dashmap_map.proofs.Turns.{sum_next}
use Rattle.dashmap_map.proofs.map.DashMap.len.Goals as goal

pub loop-shard-preserved : goal.loop-shard-preserved
loop-shard-preserved g c =
    let lock = c.shard_lock.result.now in
    let shown = subst (λ t. g.Q.Evidence.showed lock c.loop-shard.td c.read_shown.new.party t) (sym c.deref.ensures)
    c.read_shown.ensures.showed in
    let sum = c.saturating_add-sum.ensures
    ∙ ap (λ n. min (c.loop-shard.sum + n) (2 ^ 64 - 1)) c.len-count.ensures.count in
    let within : c.loop-shard.shard + 1 ≤ length c.args.self.now.locks = search rules in (
      sum_next c.args.self.now g.Q.Evidence.showed (λ shard. count shard.slots) c.loop-shard.shard c.args.td.now
          c.loop-shard.td c.read_shown.new.party c.loop-shard.sum c.saturating_add-sum.result lock c.deref.result.now
          c.loop-shard.invariant.0 c.shard_lock.ensures shown sum,
      within,
    )
