use Rattle.std.proofs.Common.{◌≡◌, take}
use Rattle.std.specs.List.{sum_by}
use Rattle.dashmap_table.specs.Slots.{count}
use Rattle.dashmap_view.specs.Views.{at_most_max}
use Rattle.dashmap_view.proofs.counting.pairs_in.Given as goal

abbrev pub invariant-loop-shard : goal.invariant-loop-shard
invariant-loop-shard g l = l.pairs ≡ at_most_max (sum_by (λ t. count t.slots) (take l.shard-index l.shards))
