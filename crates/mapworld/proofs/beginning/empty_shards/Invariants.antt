use Rattle.std.proofs.Common.{◌≡◌, length}
use Rattle.mapworld.specs.Beginning.{AreEmpty}
use Rattle.mapworld.proofs.beginning.empty_shards.Given as goal

abbrev pub invariant-loop : goal.invariant-loop
invariant-loop g l = (length l.tables.items ≡ l.counter) × AreEmpty l.tables.items
