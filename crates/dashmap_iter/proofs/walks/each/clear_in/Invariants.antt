use Rattle.std.proofs.Common.{◌≡◌, ◌<◌, ◌≤◌, ◌-◌, ◌^◌, ℕ, None}
use Rattle.dashmap_table.specs.Slots.{at}
use Rattle.dashmap_iter.proofs.walks.each.clear_in.Given as goal

-- nothing is left in the slots below one
abbrev pub invariant-loop-slot : goal.invariant-loop-slot
invariant-loop-slot g l =
    ((i : ℕ) → i < l.from → at l.shard.slots i ≡ None)
    × (l.shard.room ≤ l.initial.shard.room)

abbrev pub decreases-loop-slot : goal.decreases-loop-slot
decreases-loop-slot g l = 2 ^ 64 - l.from
