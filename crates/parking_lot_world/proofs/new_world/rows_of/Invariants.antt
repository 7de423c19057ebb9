use Rattle.std.proofs.Common.{◌≡◌, ◌≤◌, length, map, take}
use Rattle.std.specs.Prelude.{vec_capacity}
use Rattle.parking_lot_world.specs.WorldCalls.{row_kind}
use Rattle.parking_lot_world.proofs.new_world.rows_of.Given as goal

-- the rows of the locks so far, and room for the rest
abbrev pub invariant-loop-kind : goal.invariant-loop-kind
invariant-loop-kind g l = record {
  listed : l.rows.items ≡ map row_kind (take l.kind-index l.kinds);
  few : length l.rows.items ≤ l.kind-index;
  room : length l.kinds ≤ vec_capacity l.rows;
}
