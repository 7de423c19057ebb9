use Rattle.std.proofs.Common.{rules, sym, subst}
use Rattle.std.specs.List.{All}
use Rattle.dashmap_map.specs.Owner.{IsFresh}
use Rattle.dashmap_map.proofs.Lists.{all_push}
use Rattle.dashmap_map.proofs.room.empty_shards.Goals as goal

pub loop-preserved : goal.loop-preserved
loop-preserved g c = (
  search rules,
  subst (All (IsFresh c.args.share)) (sym c.in_ok-push.ensures.items)
      (all_push (IsFresh c.args.share) c.loop.shards.items c.in_ok-empty_shard.field-0 c.loop.invariant.1
      c.in_ok-empty_shard.ensures),
)
