use Rattle.dashmap_table.proofs.ShardAmounts.{IsShardAmount-tested}
use Rattle.dashmap_table.proofs.routing.is_shard_amount.Goals as goal

pub returns : goal.returns
returns c =
    IsShardAmount-tested c.args.shards c.ilog2.result c.ilog2.ensures.bound c.ilog2.ensures.power_le
    c.ilog2.ensures.next_power_gt
    c.if-shards-lt2.false c.if-shards.false
