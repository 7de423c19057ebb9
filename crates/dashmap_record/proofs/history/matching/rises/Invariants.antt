use Rattle.std.proofs.Common.{◌≡◌, None, drop}
use Rattle.dashmap_record.specs.History.Match.{rises_above}
use Rattle.dashmap_record.proofs.history.matching.rises.Given as goal

-- the whole rises where the rest rises above the last
abbrev pub invariant-loop-entry : goal.invariant-loop-entry
invariant-loop-entry g l = rises_above None l.list ≡ rises_above l.last (drop l.entry-index l.list)
