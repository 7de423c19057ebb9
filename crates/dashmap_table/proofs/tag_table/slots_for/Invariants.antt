use Rattle.std.proofs.Common.{◌≡◌, ◌-◌, ◌*◌, ◌%◌, ◌<◌, ◌≤◌, ◌⊎◌}
use Rattle.dashmap_table.proofs.tag_table.slots_for.Given as goal

abbrev pub invariant-loop-slots : goal.invariant-loop-slots
invariant-loop-slots l = (4 ≤ l.slots) × ((l.slots ≡ 4) ⊎ (3 * l.slots < 8 * l.pairs))
    × (16 ≤ l.slots → l.slots % 16 ≡ 0) × ((l.slots ≡ 4) ⊎ (l.slots % 8 ≡ 0))

abbrev pub decreases-loop-slots : goal.decreases-loop-slots
decreases-loop-slots l = 8 * l.pairs - 3 * l.slots
