use Rattle.std.proofs.Common.{◌≡◌}
use Rattle.std.specs.Prelude.{replicate}
use Rattle.dashmap_table.specs.Shards.{no_pairs}
use Rattle.dashmap_table.proofs.shards.empty_shards.Given as goal

abbrev pub invariant-loop : goal.invariant-loop
invariant-loop g l = l.shards.items ≡ replicate l.counter no_pairs
