use Rattle.std.proofs.Common.{◌-◌, ◌≡◌, ◌≤◌, length, map, drop}
use Rattle.std.specs.Simd.Lanes.{mask_l}
use Rattle.dashmap_table.specs.Tags.Lanes.{accepts}
use Rattle.dashmap_table.proofs.tags.window.part.Given as goal

-- the lanes from `at` on were looked at
abbrev pub invariant-loop-at : goal.invariant-loop-at
invariant-loop-at l = record {
  within : l.at ≤ length l.tags;
  behind : l.from ≤ l.at;
  seen : l.bits ≡ mask_l (map (accepts l.wanted) (drop l.at l.tags));
}

abbrev pub decreases-loop-at : goal.decreases-loop-at
decreases-loop-at l = l.at - l.from
