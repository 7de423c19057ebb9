use Rattle.std.proofs.Common.{◌≡◌, ◌≤◌, length, map, take}
use Rattle.std.specs.Prelude.{vec_capacity}
use Rattle.parking_lot_machine_waits.specs.JointSteps.{AreKnown, var_of}
use Rattle.parking_lot_machine_waits.proofs.new_machine.vars_of.Given as goal

-- the variables so far, and room for the rest
abbrev pub invariant-loop-is_variable : goal.invariant-loop-is_variable
invariant-loop-is_variable g l = record {
  listed : l.vars.items ≡ map (var_of l.threads) (take l.is_variable-index l.variables);
  known : AreKnown l.vars.items;
  few : length l.vars.items ≤ l.is_variable-index;
  room : length l.variables ≤ vec_capacity l.vars;
}
