use Rattle.std.proofs.Common.{◌<◌, length, sym, ap, subst, ◌∙◌}
use Rattle.std.proofs.lemmas.List.{get_or_read}
use Rattle.dashmap_table.specs.Slots.{slot_of}
use Rattle.dashmap_table.specs.Shards.{no_pairs}
use Rattle.dashmap_table.proofs.Sharding.{remove-none, remove-after, remove-no_table, remove-table}
use Rattle.dashmap_table.proofs.shards.Shards.remove.Goals as goal

pub returns-in_err-slot-clause-after : goal.returns-in_err-slot-clause-after
returns-in_err-slot-clause-after g c =
    remove-none g.S.BuildHasher g.S.Hasher.Hasher g.K.Hash.hash_input g.K.PartialEq.eq g.met.K.Eq.laws
    g.met.K.Hash.respects_eq c.self.inside.shards.items c.self.inside.hasher c.args.self.now c.self.view_is
    c.self.invariant
    c.args.key.now c.hash-hash.result c.hash-hash.ensures c.shard_of-shard.result c.shard_of-shard.ensures.value
    c.shard_of-shard.ensures.below c.index.result.now c.index.result.now c.index.ensures
    (sym c.find.ensures.slot ∙ c.in_err-slot.was)

pub returns-clause-after : goal.returns-clause-after
returns-clause-after g c =
    let within = subst (λ t. c.shard_of-shard.result < length t.tables) (sym c.self.view_is)
    c.shard_of-shard.ensures.below in
    let items = c.self.inside.shards.items in
    let read = get_or_read items c.shard_of-shard.result c.index_mut.result.now within c.index_mut.ensures.value
    no_pairs ∙ sym (get_or_read items c.shard_of-shard.result c.index.result.now within c.index.ensures no_pairs) in
    remove-after g.S.BuildHasher g.S.Hasher.Hasher g.K.Hash.hash_input g.K.PartialEq.eq g.met.K.Eq.laws
    g.met.K.Hash.respects_eq c.self.inside.shards.items c.self.inside.hasher c.args.self.now c.self.view_is
    c.self.invariant
    c.args.key.now c.hash-hash.result c.hash-hash.ensures c.shard_of-shard.result c.shard_of-shard.ensures.value
    c.shard_of-shard.ensures.below c.index_mut.result.now c.remove.new.self c.index_mut.ensures.value
    c.in_ok-slot.slot (ap (λ t. slot_of g.K.PartialEq.eq t.slots c.hash-hash.result c.args.key.now) read
    ∙ (sym c.find.ensures.slot ∙ c.in_ok-slot.was)) c.remove.ensures.sound c.remove.ensures.frees

pub returns-in_err-slot-clause-table : goal.returns-in_err-slot-clause-table
returns-in_err-slot-clause-table g c =
    remove-no_table g.S.BuildHasher g.S.Hasher.Hasher g.K.Hash.hash_input g.K.PartialEq.eq g.met.K.Eq.laws
    g.met.K.Hash.respects_eq c.self.inside.shards.items c.self.inside.hasher c.args.self.now c.self.view_is
    c.self.invariant
    c.args.key.now c.hash-hash.result c.hash-hash.ensures c.shard_of-shard.result c.shard_of-shard.ensures.value
    c.shard_of-shard.ensures.below c.index.result.now c.index.result.now c.index.ensures
    (sym c.find.ensures.slot ∙ c.in_err-slot.was)

pub returns-clause-table : goal.returns-clause-table
returns-clause-table g c =
    let within = subst (λ t. c.shard_of-shard.result < length t.tables) (sym c.self.view_is)
    c.shard_of-shard.ensures.below in
    let items = c.self.inside.shards.items in
    let read = get_or_read items c.shard_of-shard.result c.index_mut.result.now within c.index_mut.ensures.value
    no_pairs ∙ sym (get_or_read items c.shard_of-shard.result c.index.result.now within c.index.ensures no_pairs) in
    remove-table g.S.BuildHasher g.S.Hasher.Hasher g.K.Hash.hash_input g.K.PartialEq.eq g.met.K.Eq.laws
    g.met.K.Hash.respects_eq c.self.inside.shards.items c.self.inside.hasher c.args.self.now c.self.view_is
    c.self.invariant
    c.args.key.now c.hash-hash.result c.hash-hash.ensures c.shard_of-shard.result c.shard_of-shard.ensures.value
    c.shard_of-shard.ensures.below c.index_mut.result.now c.remove.new.self c.index_mut.ensures.value
    c.in_ok-slot.slot (ap (λ t. slot_of g.K.PartialEq.eq t.slots c.hash-hash.result c.args.key.now) read
    ∙ (sym c.find.ensures.slot ∙ c.in_ok-slot.was)) c.remove.ensures.frees
