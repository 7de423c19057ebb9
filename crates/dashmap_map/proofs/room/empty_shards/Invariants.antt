use Rattle.std.proofs.Common.{◌≡◌, length}
use Rattle.std.specs.List.{All}
use Rattle.dashmap_map.specs.Owner.{IsFresh}
use Rattle.dashmap_map.proofs.room.empty_shards.Given as goal

abbrev pub invariant-loop : goal.invariant-loop
invariant-loop g l = (length l.shards.items ≡ l.counter) × All (IsFresh l.fn.share) l.shards.items
