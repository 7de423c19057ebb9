-- What is left of pairs that are given up shard by shard.
use Rattle.std.specs.Prelude.{List, ◌++◌, Option, Some, None}
use Rattle.dashmap_table.specs.Table.{Table}
use Rattle.dashmap_view.specs.Views.{all_pairs}

module _ {K V : Type 0} where
  -- those that are left of the shard at hand, and those of the shards behind it
  abbrev pub pairs_left : Option (List (K × V)) → List (Table K V) → List (K × V)
  pairs_left None tables = all_pairs tables
  pairs_left (Some pairs) tables = pairs ++ all_pairs tables
