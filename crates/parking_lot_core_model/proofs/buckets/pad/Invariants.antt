use Rattle.std.proofs.Common.{◌≡◌, ◌≤◌, length}
use Rattle.std.specs.Prelude.{vec_capacity}
use Rattle.parking_lot_core_model.specs.Buckets.{slot}
use Rattle.parking_lot_core_model.proofs.buckets.pad.Given as goal

-- so many places, and nothing new in them
abbrev pub invariant-loop-at : goal.invariant-loop-at
invariant-loop-at g l = record {
  slots : slot l.list.items ≡ slot l.initial.list.items;
  long : length l.list.items ≡ l.at;
  room : l.count ≤ vec_capacity l.list;
}
