use Rattle.std.proofs.Common.{◌-◌, ◌^◌}
use Rattle.dashmap_map.proofs.show.show_pairs.Given as goal

abbrev pub decreases-loop-slot : goal.decreases-loop-slot
decreases-loop-slot g l = 2 ^ 64 - l.from
