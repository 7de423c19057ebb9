use Rattle.std.proofs.Common.{◌≡◌, ◌≤◌, length, map}
use Rattle.mapworld_state.specs.Route.{key_route}
use Rattle.mapworld_state.specs.Shards.{shard_pairs}
use Rattle.mapworld_state.specs.Slots.{key_hash}
use Rattle.mapworld.specs.Beginning.{AreFilled, AreHashed, pairs_in}
use Rattle.mapworld.proofs.beginning.fill.Given as goal

abbrev pub invariant-loop-key : goal.invariant-loop-key
invariant-loop-key g l = record {
  filled : AreFilled g.K.PartialEq.eq (key_route g.S.BuildHasher g.S.Hasher.Hasher g.K.Hash.hash_input l.hasher
      (length l.initial.tables.items)) l.yielded (map shard_pairs l.tables.items);
  hashed : AreHashed (key_hash g.S.BuildHasher g.S.Hasher.Hasher g.K.Hash.hash_input l.hasher) l.tables.items;
  shards : length l.tables.items ≡ length l.initial.tables.items;
  count : l.count ≡ pairs_in (map shard_pairs l.tables.items);
  within : l.count ≤ length l.yielded;
}
