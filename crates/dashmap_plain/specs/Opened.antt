-- A map that is taken apart.
use Rattle.std.specs.Prelude.{List}
use Rattle.crossbeam_utils.specs.declared.cache_padded.CachePadded.{CachePadded}
use Rattle.dashmap_table.specs.Shards.{Tables}

pub record Opened (K V S Q : Type 0) : Type 0 where
  -- the plain shards and the hasher
  pub plain : Tables K V S
  -- the raw locks that the shards stood behind, from shard 0 on
  pub locks : List (CachePadded Q)
