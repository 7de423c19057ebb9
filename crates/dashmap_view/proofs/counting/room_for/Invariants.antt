use Rattle.std.proofs.Common.{◌≡◌, take}
use Rattle.std.specs.List.{sum_by}
use Rattle.dashmap_view.specs.Views.{at_most_max}
use Rattle.dashmap_view.proofs.counting.room_for.Given as goal

abbrev pub invariant-loop-shard : goal.invariant-loop-shard
invariant-loop-shard g l = l.room ≡ at_most_max (sum_by (λ t. t.room) (take l.shard-index l.shards))
