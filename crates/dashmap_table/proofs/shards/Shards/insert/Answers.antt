use Rattle.std.proofs.lemmas.Result.{err_from_is_err_and}
use Rattle.dashmap_table.proofs.Sharding.{insert-sharded, insert-refused, insert-after, insert-table}
use Rattle.dashmap_table.proofs.shards.Shards.insert.Goals as goal

pub invariant_of-self : goal.invariant_of-self
invariant_of-self g c =
    insert-sharded g.S.BuildHasher g.S.Hasher.Hasher g.K.Hash.hash_input g.K.PartialEq.eq g.met.K.Eq.laws
    g.met.K.Hash.respects_eq c.self.inside.shards.items c.self.inside.hasher c.args.self.now c.self.view_is
    c.self.invariant
    c.args.key c.hash-hash.result c.hash-hash.ensures c.shard_of-shard.result c.shard_of-shard.ensures.value
    c.shard_of-shard.ensures.below c.index_mut.result.now c.insert.new.self c.index_mut.ensures.value
    c.args.value c.insert.result c.insert.ensures.sound c.insert.ensures.present c.insert.ensures.added
    c.insert.ensures.refused

pub returns-in_err-old-clause-refused : goal.returns-in_err-old-clause-refused
returns-in_err-old-clause-refused g c =
    let p = err_from_is_err_and c.from_residual.result c.from_residual.ensures.1 in
    rw (p.1, p.2)
    (insert-refused g.S.BuildHasher g.S.Hasher.Hasher g.K.Hash.hash_input g.K.PartialEq.eq g.met.K.Eq.laws
    g.met.K.Hash.respects_eq c.self.inside.shards.items c.self.inside.hasher c.args.self.now c.self.view_is
    c.self.invariant
    c.args.key c.hash-hash.result c.hash-hash.ensures c.shard_of-shard.result c.shard_of-shard.ensures.value
    c.shard_of-shard.ensures.below c.index_mut.result.now c.insert.new.self c.index_mut.ensures.value
    c.args.value c.insert.result c.insert.ensures.sound c.insert.ensures.present c.insert.ensures.added
    c.insert.ensures.refused _ c.in_err-old.was)

pub invariant_of-self-2 : goal.invariant_of-self-2
invariant_of-self-2 g c =
    insert-sharded g.S.BuildHasher g.S.Hasher.Hasher g.K.Hash.hash_input g.K.PartialEq.eq g.met.K.Eq.laws
    g.met.K.Hash.respects_eq c.self.inside.shards.items c.self.inside.hasher c.args.self.now c.self.view_is
    c.self.invariant
    c.args.key c.hash-hash.result c.hash-hash.ensures c.shard_of-shard.result c.shard_of-shard.ensures.value
    c.shard_of-shard.ensures.below c.index_mut.result.now c.insert.new.self c.index_mut.ensures.value
    c.args.value c.insert.result c.insert.ensures.sound c.insert.ensures.present c.insert.ensures.added
    c.insert.ensures.refused

pub returns-clause-after : goal.returns-clause-after
returns-clause-after g c =
    insert-after g.S.BuildHasher g.S.Hasher.Hasher g.K.Hash.hash_input g.K.PartialEq.eq g.met.K.Eq.laws
    g.met.K.Hash.respects_eq c.self.inside.shards.items c.self.inside.hasher c.args.self.now c.self.view_is
    c.self.invariant
    c.args.key c.hash-hash.result c.hash-hash.ensures c.shard_of-shard.result c.shard_of-shard.ensures.value
    c.shard_of-shard.ensures.below c.index_mut.result.now c.insert.new.self c.index_mut.ensures.value
    c.args.value c.insert.result c.insert.ensures.sound c.insert.ensures.present c.insert.ensures.added
    c.insert.ensures.refused _ c.in_ok-old.was

pub returns-clause-table : goal.returns-clause-table
returns-clause-table g c =
    insert-table g.S.BuildHasher g.S.Hasher.Hasher g.K.Hash.hash_input g.K.PartialEq.eq g.met.K.Eq.laws
    g.met.K.Hash.respects_eq c.self.inside.shards.items c.self.inside.hasher c.args.self.now c.self.view_is
    c.self.invariant
    c.args.key c.hash-hash.result c.hash-hash.ensures c.shard_of-shard.result c.shard_of-shard.ensures.value
    c.shard_of-shard.ensures.below c.index_mut.result.now c.insert.new.self c.index_mut.ensures.value
    c.args.value c.insert.result c.insert.ensures.sound c.insert.ensures.present c.insert.ensures.added
    c.insert.ensures.refused _ c.in_ok-old.was
