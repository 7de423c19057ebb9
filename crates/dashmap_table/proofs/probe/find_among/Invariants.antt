use Rattle.std.proofs.Common.{◌≡◌, ℕ, ◌+◌, false}
use Rattle.dashmap_table.specs.Tags.Lanes.{HasLane}
use Rattle.dashmap_table.specs.Slots.{at, holds}
use Rattle.dashmap_table.proofs.probe.find_among.Given as goal

-- the lanes that aren't left were looked at
abbrev pub invariant-loop-lane : goal.invariant-loop-lane
invariant-loop-lane g l = record {
  some : (k : ℕ) → HasLane l.left k → HasLane l.fn.lanes k;
  missed : (k : ℕ) → HasLane l.fn.lanes k → ¬ HasLane l.left k
      → holds g.K.PartialEq.eq l.hash l.key (at l.slots (l.from + k)) ≡ false;
}

abbrev pub decreases-loop-lane : goal.decreases-loop-lane
decreases-loop-lane g l = l.left.bits
