use Rattle.std.proofs.Common.{◌≤◌}
use Rattle.dashmap_calls.proofs.workload.found.Given as goal

abbrev pub invariant-loop-key : goal.invariant-loop-key
invariant-loop-key g l = l.sum ≤ l.key
