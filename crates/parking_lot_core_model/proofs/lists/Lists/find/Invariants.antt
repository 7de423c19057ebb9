use Rattle.std.proofs.Common.{◌≡◌, ◌≤◌, length, take}
use Rattle.parking_lot_core_model.specs.Lists.{lists_of}
use Rattle.parking_lot_core_model.proofs.lists.Lists.find.Given as goal

-- so many of the key's entries were passed
abbrev pub invariant-loop-at : goal.invariant-loop-at
invariant-loop-at g l = record {
  passed : l.passed ≡ length (lists_of (take l.at l.self.entries.items) l.key);
  below : l.passed ≤ l.nth;
}
