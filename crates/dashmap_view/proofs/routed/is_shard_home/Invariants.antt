use Rattle.std.proofs.Common.{◌≡◌, ℕ, ◌-◌, ◌<◌, length, Some}
use Rattle.dashmap_table.specs.declared.entry.Entry.{Entry}
use Rattle.dashmap_table.specs.Slots.{at}
use Rattle.dashmap_view.specs.Views.{IsHome}
use Rattle.dashmap_view.proofs.routed.is_shard_home.Given as goal

-- the entries of the slots that were passed belong there
abbrev pub invariant-loop-full : goal.invariant-loop-full
invariant-loop-full g l = (j : ℕ) (e : Entry g.row.K.Denot g.row.V.Denot) → j < l.slot → at l.shard.slots j ≡ Some e
    → IsHome g.S.BuildHasher g.S.Hasher.Hasher g.K.Hash.hash_input l.hasher l.amount l.number e

abbrev pub decreases-loop-full : goal.decreases-loop-full
decreases-loop-full g l = length l.shard.slots - l.slot
