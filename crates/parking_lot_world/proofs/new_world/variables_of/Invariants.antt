use Rattle.std.proofs.Common.{◌≡◌, ◌≤◌, length, map, take}
use Rattle.std.specs.Prelude.{vec_capacity}
use Rattle.parking_lot_world.specs.WorldCalls.{is_variable}
use Rattle.parking_lot_world.proofs.new_world.variables_of.Given as goal

-- which of the locks so far are condition variables, and room for the rest
abbrev pub invariant-loop-kind : goal.invariant-loop-kind
invariant-loop-kind g l = record {
  listed : l.variables.items ≡ map is_variable (take l.kind-index l.kinds);
  few : length l.variables.items ≤ l.kind-index;
  room : length l.kinds ≤ vec_capacity l.variables;
}
