use Rattle.std.proofs.Common.{length}
use Rattle.parking_lot_core.proofs.going_on.ring.Given as goal

abbrev pub decreases-loop-first : goal.decreases-loop-first
decreases-loop-first g l = length l.taken
