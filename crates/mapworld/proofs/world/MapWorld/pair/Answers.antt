use Rattle.std.proofs.Common.{refl, sym, ap, ◌∙◌}
use Rattle.std.proofs.lemmas.List.{length-map}
use Rattle.mapworld_state.specs.Shards.{shard_pairs}
use Rattle.mapworld_state.proofs.Views.{view-at}
use Rattle.std.proofs.lemmas.Option.{slice_get_read}
use Rattle.mapworld_state.specs.Core.{state_of}
use Rattle.dashmap_table.specs.Route.{route_of, hash_of}
use Rattle.mapworld_transitions.proofs.Keys.{setup-laws}
use Rattle.mapworld.proofs.Viewing.{pair_in_shard}
use Rattle.mapworld.proofs.world.MapWorld.pair.Goals as goal

pub returns : goal.returns
returns g c =
    let core = c.self.inside.core in
    let key = c.args.key.now in
    let count = c.len.ensures ∙ core.tables.ok.0 in
    let laws = setup-laws g.D.Deed g.S.BuildHasher g.S.Hasher.Hasher g.K.PartialEq.eq g.K.Hash.hash_input
    (state_of core) g.met.K.Eq.laws g.met.K.Hash.respects_eq in
    let route = c.shard_of-shard.ensures.value ∙ ap
    (λ n. route_of (hash_of g.S.BuildHasher g.S.Hasher.Hasher core.hasher (g.K.Hash.hash_input key)) n) count in
    let at = slice_get_read core.tables.items c.len.result c.shard_of-shard.result c.index.result.now count
    c.shard_of-shard.ensures.below c.index.ensures in
    rw (← c.self.view_is)
    (pair_in_shard _ core.blocks.items (state_of core).tables laws c.self.invariant.0.tables key
    c.shard_of-shard.result (shard_pairs c.index.result.now)
    (shard_pairs c.index.result.now).items _ (route
    ∙ ap (λ n. route_of (hash_of g.S.BuildHasher g.S.Hasher.Hasher core.hasher (g.K.Hash.hash_input key)) n)
    (sym (length-map core.tables.items shard_pairs)))
    (view-at shard_pairs core.tables.items c.shard_of-shard.result c.index.result.now at)
    refl c.pair_in.ensures)

pub pair_in-requires : goal.pair_in-requires
pair_in-requires g c =
    let core = c.self.inside.core in
    let count = c.len.ensures ∙ core.tables.ok.0 in
    let at = slice_get_read core.tables.items c.len.result c.shard_of-shard.result c.index.result.now count
    c.shard_of-shard.ensures.below c.index.ensures in
    record {
      hashed = c.self.invariant.2.hashed c.shard_of-shard.result c.index.result.now at;
      distinct = c.self.invariant.0.tables.distinct c.shard_of-shard.result (shard_pairs c.index.result.now)
          (view-at shard_pairs core.tables.items c.shard_of-shard.result c.index.result.now at);
    }
