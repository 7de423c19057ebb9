use Rattle.std.proofs.Common.{rules, ◌≤◌, ◌+◌, length, ◌∙◌}
use Rattle.dashmap_map.specs.Effects.{Shrunk}
use Rattle.dashmap_map.proofs.Turns.{held_next}
use Rattle.dashmap_map.proofs.map.DashMap.shrink_to_fit.Goals as goal

pub loop-shard-preserved : goal.loop-shard-preserved
loop-shard-preserved g c =
    let shrunk = c.in_ok-shrink_behind.ensures in
    let within : c.loop-shard.shard + 1 ≤ length c.args.self.now.locks = search rules in (
      held_next c.args.self.now g.Q.Evidence.held (Shrunk g.K.PartialEq.eq) c.loop-shard.shard c.args.td.now
          c.loop-shard.td c.shrink_behind.new.td c.loop-shard.invariant.0
          (shrunk.0, shrunk.1, shrunk.2, c.shard_lock.ensures ∙ shrunk.3, shrunk.4, shrunk.5),
      within,
    )
