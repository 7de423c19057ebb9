use Rattle.dashmap_map.proofs.Amounts.{default_share}
use Rattle.dashmap_map.proofs.make.DashMap+K+V+RandomState+Q+A.with_capacity.Goals as goal

pub returns-clause-overflow : goal.returns-clause-overflow
returns-clause-overflow g c = default_share _ c.args.capacity c.args.parallelism c.in-Some.amount c.in-Some.ensures.0
    c.in-Some.ensures.1 c.with_capacity_and_shard_amount.ensures.overflow
