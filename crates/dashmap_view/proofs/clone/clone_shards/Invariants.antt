use Rattle.std.proofs.Common.{take}
use Rattle.std.specs.List.{AllZip}
use Rattle.dashmap_view.specs.Clones.{IsCloneOf}
use Rattle.dashmap_view.proofs.clone.clone_shards.Given as goal

abbrev pub invariant-loop-shard : goal.invariant-loop-shard
invariant-loop-shard g l = AllZip (IsCloneOf g.K.PartialEq.eq) (take l.shard-index l.shards) l.clones.items
