use Rattle.std.proofs.Common.{◌+◌, cond, length, map, refl, ap, sym, ◌∙◌, arith, add-zero}
use Rattle.std.proofs.lemmas.List.{length_push}
use Rattle.std.proofs.lemmas.Option.{slice_get_read}
use Rattle.dashmap_table.specs.Route.{route_of, hash_of}
use Rattle.mapworld_state.specs.Route.{key_route}
use Rattle.mapworld.specs.Beginning.{pairs_in}
use Rattle.mapworld.proofs.Routes.{key_route-equal}
use Rattle.mapworld_state.specs.Shards.{shard_pairs}
use Rattle.mapworld_state.specs.Slots.{key_hash}
use Rattle.mapworld.proofs.Filling.{AreFilled-none, AreFilled-put, AreHashed-none, AreHashed-set, pairs_in-put}
use Rattle.mapworld.proofs.Filling.{pairs_in-none, length-slice_set}
use Rattle.mapworld.proofs.beginning.fill.Goals as goal

pub loop-key-init : goal.loop-key-init
loop-key-init g c =
    let shards = length c.args.tables.now.items in
    let routes = key_route-equal g.S.BuildHasher g.S.Hasher.Hasher g.K.Hash.hash_input c.args.hasher.now shards
    g.K.PartialEq.eq g.met.K.Hash.respects_eq in
    record {
      filled = AreFilled-none g.K.PartialEq.eq g.met.K.Eq.laws
          (key_route g.S.BuildHasher g.S.Hasher.Hasher g.K.Hash.hash_input c.args.hasher.now shards) routes
          c.args.tables.now.items c.requires.empty;
      hashed = AreHashed-none (key_hash g.S.BuildHasher g.S.Hasher.Hasher g.K.Hash.hash_input c.args.hasher.now)
          c.args.tables.now.items c.requires.empty;
      shards = refl;
      count = sym (pairs_in-none c.args.tables.now.items c.requires.empty);
      within = omega arith;
    }

pub loop-key-preserved-then-branch : goal.loop-key-preserved-then-branch
loop-key-preserved-then-branch g c =
    let shards = length c.args.tables.now.items in
    let tables = c.loop-key.tables in
    let table = c.index_mut.result.now in
    let shard = c.shard_of-shard.result in
    let key = c.in-Some.key in
    let value = c.in-Some.value in
    let more = c.in_ok-put_pair.field-0 in
    let routes = key_route-equal g.S.BuildHasher g.S.Hasher.Hasher g.K.Hash.hash_input c.args.hasher.now shards
    g.K.PartialEq.eq g.met.K.Hash.respects_eq in
    let count = c.len.ensures ∙ tables.ok.0 in
    let route = c.shard_of-shard.ensures.value ∙ ap
    (λ n. route_of (hash_of g.S.BuildHasher g.S.Hasher.Hasher c.args.hasher.now (g.K.Hash.hash_input key)) n)
    (count ∙ c.loop-key.invariant.shards) in
    let at = slice_get_read tables.items c.len.result shard table count c.shard_of-shard.ensures.below
    c.index_mut.ensures.value in
    let pushed = length_push c.loop-key.yielded (key, value) in
    let counted = pairs_in-put g.K.PartialEq.eq tables.items table c.put_pair.new.shard key _ shard more at
    c.in_ok-put_pair.ensures.puts c.in_ok-put_pair.ensures.new
    ∙ ap (λ b. pairs_in (map shard_pairs tables.items) + cond b 1 0) c.if-branch.true in
    record {
      filled = AreFilled-put g.K.PartialEq.eq g.met.K.Eq.laws
          (key_route g.S.BuildHasher g.S.Hasher.Hasher g.K.Hash.hash_input c.args.hasher.now shards) routes
          c.loop-key.yielded tables.items table c.put_pair.new.shard key value shard c.loop-key.invariant.filled
          route at c.in_ok-put_pair.ensures.puts;
      hashed = AreHashed-set (key_hash g.S.BuildHasher g.S.Hasher.Hasher g.K.Hash.hash_input c.args.hasher.now)
          tables.items shard table c.put_pair.new.shard at c.loop-key.invariant.hashed c.put_pair.ensures.hashed;
      shards = length-slice_set tables.items shard c.put_pair.new.shard ∙ c.loop-key.invariant.shards;
      count = ap (λ n. n + 1) c.loop-key.invariant.count ∙ sym counted;
      within = omega (arith, pushed, c.loop-key.invariant.within);
    }

pub loop-key-preserved : goal.loop-key-preserved
loop-key-preserved g c =
    let shards = length c.args.tables.now.items in
    let tables = c.loop-key.tables in
    let table = c.index_mut.result.now in
    let shard = c.shard_of-shard.result in
    let key = c.in-Some.key in
    let value = c.in-Some.value in
    let more = c.in_ok-put_pair.field-0 in
    let routes = key_route-equal g.S.BuildHasher g.S.Hasher.Hasher g.K.Hash.hash_input c.args.hasher.now shards
    g.K.PartialEq.eq g.met.K.Hash.respects_eq in
    let count = c.len.ensures ∙ tables.ok.0 in
    let route = c.shard_of-shard.ensures.value ∙ ap
    (λ n. route_of (hash_of g.S.BuildHasher g.S.Hasher.Hasher c.args.hasher.now (g.K.Hash.hash_input key)) n)
    (count ∙ c.loop-key.invariant.shards) in
    let at = slice_get_read tables.items c.len.result shard table count c.shard_of-shard.ensures.below
    c.index_mut.ensures.value in
    let pushed = length_push c.loop-key.yielded (key, value) in
    let counted = pairs_in-put g.K.PartialEq.eq tables.items table c.put_pair.new.shard key _ shard more at
    c.in_ok-put_pair.ensures.puts c.in_ok-put_pair.ensures.new
    ∙ ap (λ b. pairs_in (map shard_pairs tables.items) + cond b 1 0) c.if-branch.false in
    record {
      filled = AreFilled-put g.K.PartialEq.eq g.met.K.Eq.laws
          (key_route g.S.BuildHasher g.S.Hasher.Hasher g.K.Hash.hash_input c.args.hasher.now shards) routes
          c.loop-key.yielded tables.items table c.put_pair.new.shard key value shard c.loop-key.invariant.filled
          route at c.in_ok-put_pair.ensures.puts;
      hashed = AreHashed-set (key_hash g.S.BuildHasher g.S.Hasher.Hasher g.K.Hash.hash_input c.args.hasher.now)
          tables.items shard table c.put_pair.new.shard at c.loop-key.invariant.hashed c.put_pair.ensures.hashed;
      shards = length-slice_set tables.items shard c.put_pair.new.shard ∙ c.loop-key.invariant.shards;
      count = c.loop-key.invariant.count ∙ sym (counted ∙ add-zero (pairs_in (map shard_pairs tables.items)));
      within = omega (arith, pushed, c.loop-key.invariant.within);
    }

pub put_pair-requires : goal.put_pair-requires
put_pair-requires g c =
    let tables = c.loop-key.tables in
    let count = c.len.ensures ∙ tables.ok.0 in
    let at = slice_get_read tables.items c.len.result c.shard_of-shard.result c.index_mut.result.now count
    c.shard_of-shard.ensures.below c.index_mut.ensures.value in
    record { hashed = c.loop-key.invariant.hashed c.shard_of-shard.result c.index_mut.result.now at }
