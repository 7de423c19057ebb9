use Rattle.dashmap_calls.proofs.workload.bare.Bare.window_sum.Given as goal

abbrev pub decreases-loop-lane : goal.decreases-loop-lane
decreases-loop-lane g l = l.left.bits
