use Rattle.std.proofs.Common.{◌≡◌, ◌≤◌, length, take}
use Rattle.std.specs.Prelude.{vec_capacity}
use Rattle.parking_lot_machine_sides.specs.Once.Entries.{list_of}
use Rattle.parking_lot_machine_sides.proofs.once.machine_views.threads_of.Given as goal

-- the list's threads among the entries so far, and room for the rest
abbrev pub invariant-loop-entry : goal.invariant-loop-entry
invariant-loop-entry g l = record {
  listed : l.threads.items ≡ list_of (take l.entry-index l.entries) l.list;
  few : length l.threads.items ≤ l.entry-index;
  room : length l.entries ≤ vec_capacity l.threads;
}
