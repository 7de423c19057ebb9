use Rattle.std.proofs.Common.{◌≤◌}
use Rattle.parking_lot_bench.proofs.generic.std_locks.Given as goal

abbrev pub invariant-loop-round : goal.invariant-loop-round
invariant-loop-round g l = l.found ≤ l.round
