use Rattle.std.proofs.Common.{◌≡◌, ℕ, ◌/◌, ◌<◌, length, slice_index}
use Rattle.dashmap_table.specs.Tags.Way.{on_way}
use Rattle.dashmap_table.specs.Tagged.{windows_in, IsFree}
use Rattle.dashmap_table.proofs.probe.free_on_way.Given as goal

-- the windows that were looked through are full
abbrev pub invariant-loop-passed : goal.invariant-loop-passed
invariant-loop-passed l = (j m : ℕ) → j < l.passed → m < length l.tags → m / 16 ≡ on_way (windows_in l.tags) l.hash j
    → ¬ IsFree (slice_index l.tags m)
