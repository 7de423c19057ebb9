use Rattle.std.proofs.Common.{◌-◌}
use Rattle.dashmap_calls.proofs.workload.bare.Bare.walked.Given as goal

abbrev pub decreases-loop-from : goal.decreases-loop-from
decreases-loop-from g l = l.slots - l.from
