use Rattle.std.proofs.Common.{◌<◌, length, subst, sym}
use Rattle.dashmap_table.proofs.Effects.{each-same}
use Rattle.dashmap_table.proofs.Sharding.{IsAt, each_at, AreSharded-set, pair_at-same}
use Rattle.dashmap_table.proofs.shards.Shards.reserve.Goals as goal

pub invariant_of-self : goal.invariant_of-self
invariant_of-self g c =
    let items = c.self.inside.shards.items in
    let hasher = c.self.inside.hasher in
    let shard = c.args.shard in
    let within = subst (λ t. shard < length t.tables) (sym c.self.view_is) c.requires in
    AreSharded-set g.S.BuildHasher g.S.Hasher.Hasher g.K.Hash.hash_input g.K.PartialEq.eq items hasher shard within
    c.reserve.new.self c.self.invariant c.reserve.ensures.sound
    (each-same g.K.PartialEq.eq g.met.K.Eq.laws
    (IsAt g.S.BuildHasher g.S.Hasher.Hasher g.K.Hash.hash_input g.K.PartialEq.eq items hasher shard)
    c.index_mut.result.now c.reserve.new.self c.reserve.ensures.sound c.reserve.ensures.pairs
    (each_at g.S.BuildHasher g.S.Hasher.Hasher g.K.Hash.hash_input g.K.PartialEq.eq items hasher shard within
    c.self.invariant c.index_mut.result.now c.index_mut.ensures.value))

pub returns-clause-pairs : goal.returns-clause-pairs
returns-clause-pairs g c =
    let within = subst (λ t. c.args.shard < length t.tables) (sym c.self.view_is) c.requires in
    pair_at-same g.S.BuildHasher g.S.Hasher.Hasher g.K.Hash.hash_input g.K.PartialEq.eq c.self.inside.shards.items
    c.self.inside.hasher c.args.shard within c.reserve.new.self c.index_mut.result.now c.index_mut.ensures.value
    c.reserve.ensures.pairs c.args.self.now c.self.view_is
