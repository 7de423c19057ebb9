-- The running map as contracts see it: its raw locks and its hasher. What lies behind a lock is known to its holder
-- alone.
use Rattle.std.specs.Prelude.{ℕ, List, length, Option, slice_get}
use Rattle.std.specs.Option.{option_map}
use Rattle.std.specs.Hash.{HashWrites}
use Rattle.std.specs.declared.hash.BuildHasher as builder
use Rattle.std.specs.declared.hash.Hasher as hasher
use Rattle.crossbeam_utils.specs.declared.cache_padded.CachePadded.{CachePadded}
use Rattle.crossbeam_utils.specs.Padded.{padded_value}
use Rattle.dashmap_table.specs.Route.{route_of}
use Rattle.dashmap_table.specs.Shards.{key_hash}

pub record Locked (Q S : Type 0) : Type 0 where
  -- the raw locks of the shards, from shard 0 on
  pub locks : List (CachePadded Q)
  pub hasher : S

-- the raw lock of a shard
abbrev pub lock_at : {Q S : Type 0} → Locked Q S → ℕ → Option Q
lock_at m i = option_map padded_value (slice_get m.locks i)

module _ {K Q S H : Type 0} (b : builder.Ghosts S H) (h : hasher.Ghosts H) (input : K → HashWrites) where
  -- the shard that a key is on
  abbrev pub shard_of : Locked Q S → K → ℕ
  shard_of m k = route_of (key_hash b h input m.hasher k) (length m.locks)

  -- the raw lock of that shard
  abbrev pub lock_of : Locked Q S → K → Option Q
  lock_of m k = lock_at m (shard_of m k)
