-- What a clone has of the shard that it is of.
use Rattle.std.specs.Prelude.{Bool}
use Rattle.dashmap_table.specs.Table.{Table, IsSound, SamePairs}

-- every hash and key finds in the clone what it finds in the shard, and there are as many pairs
pub record IsCloneOf {K V : Type 0} (eq : K → K → Bool) (shard clone : Table K V) : Type 0 where
  pub pairs : SamePairs eq shard clone
  pub sound : IsSound eq clone
