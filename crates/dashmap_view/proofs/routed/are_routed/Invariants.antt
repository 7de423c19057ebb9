use Rattle.std.proofs.Common.{ℕ, ◌<◌, length}
use Rattle.dashmap_table.specs.Table.{IsSound}
use Rattle.dashmap_table.specs.Shards.{table_at}
use Rattle.dashmap_view.specs.Views.{IsShardHome}
use Rattle.dashmap_view.proofs.routed.are_routed.Given as goal

-- the entries of the shards that were passed belong there
abbrev pub invariant-loop-number : goal.invariant-loop-number
invariant-loop-number g l = (j : ℕ) → j < l.number
    → IsShardHome g.S.BuildHasher g.S.Hasher.Hasher g.K.Hash.hash_input l.hasher (length l.shards) j
    (table_at l.shards j) × IsSound g.K.PartialEq.eq (table_at l.shards j)
