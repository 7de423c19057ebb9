use Rattle.dashmap_table.proofs.Sharding.{AreSharded-empty}
use Rattle.dashmap_table.proofs.shards.Shards.new.Goals as goal

pub invariant_of-result : goal.invariant_of-result
invariant_of-result g c =
    let amount = c.is_shard_amount.ensures.0 c.if-not-is_shard_amount.false in
    AreSharded-empty g.S.BuildHasher g.S.Hasher.Hasher g.K.Hash.hash_input g.K.PartialEq.eq c.args.shards
    c.in_ok-empty_shards.field-0.items c.args.hasher amount c.in_ok-empty_shards.ensures
