use Rattle.std.proofs.Common.{◌≡◌, ℕ, ◌≤◌, take}
use Rattle.dashmap_table.specs.Slots.{at, count, entry_of}
use Rattle.dashmap_table.proofs.tag_table.move_all.Given as goal

-- the full ones of the first slots were moved, and the others are as they were
abbrev pub invariant-loop-i : goal.invariant-loop-i
invariant-loop-i g l = record {
  found : (h : ℕ) (k : g.row.K.Denot) → entry_of g.K.PartialEq.eq l.table.slots h k ≡ entry_of g.K.PartialEq.eq
      (take l.i l.initial.slots) h k;
  counted : count l.table.slots ≡ count (take l.i l.initial.slots);
  room : l.initial.table.room ≤ l.table.room;
  left : (k : ℕ) → l.i ≤ k → at l.slots k ≡ at l.initial.slots k;
}
