use Rattle.dashmap_table.proofs.Sharding.{AreSharded-value}
use Rattle.dashmap_table.proofs.shards.Shards.lend_value.Goals as goal

pub invariant_of-self-lent : goal.invariant_of-self-lent
invariant_of-self-lent g c w =
    AreSharded-value g.S.BuildHasher g.S.Hasher.Hasher g.K.Hash.hash_input g.K.PartialEq.eq g.met.K.Eq.laws
    c.self.inside.shards.items c.self.inside.hasher c.args.self.now c.self.view_is c.args.shard c.requires.within
    c.self.invariant
    c.index_mut.result.now c.index_mut.ensures.value c.args.slot w
