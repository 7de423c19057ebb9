use Rattle.std.proofs.Common.{ℕ, ◌-◌, ◌<◌, ◌≤◌, length, slice_index}
use Rattle.dashmap_table.specs.Tagged.{IsFree}
use Rattle.dashmap_table.proofs.probe.full_slot_from.Given as goal

-- the slots that were passed over are free
abbrev pub invariant-loop-from : goal.invariant-loop-from
invariant-loop-from l = (l.slot ≤ l.from)
    × ((i : ℕ) → l.slot ≤ i → i < l.from → i < length l.tags → IsFree (slice_index l.tags i))

abbrev pub decreases-loop-from : goal.decreases-loop-from
decreases-loop-from l = length l.tags - l.from
