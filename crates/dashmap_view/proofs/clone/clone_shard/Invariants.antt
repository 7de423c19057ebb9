use Rattle.std.proofs.Common.{◌≡◌, ℕ, ◌≤◌, take}
use Rattle.dashmap_table.specs.Slots.{count, entry_of}
use Rattle.dashmap_view.proofs.clone.clone_shard.Given as goal

-- the pairs of the first slots have their clones, and there is room for those of all
abbrev pub invariant-loop-slot : goal.invariant-loop-slot
invariant-loop-slot g l = record {
  found : (h : ℕ) (k : g.row.K.Denot) → entry_of g.K.PartialEq.eq l.clones.slots h k ≡ entry_of g.K.PartialEq.eq
      (take l.slot l.shard.slots) h k;
  counted : count l.clones.slots ≡ count (take l.slot l.shard.slots);
  room : count l.shard.slots ≤ l.clones.room;
}
