use Rattle.std.proofs.Common.{◌≡◌, ◌≤◌, ◌++◌, List, length}
use Rattle.std.specs.Prelude.{vec_capacity}
use Rattle.parking_lot_core_model.specs.declared.chains.Node.{Node}
use Rattle.parking_lot_core_model.proofs.spread.add_nodes.Given as goal

-- so many nodes, and others behind those that were there
abbrev pub invariant-loop-at : goal.invariant-loop-at
invariant-loop-at g l = record {
  more : (more : List Node) × (l.nodes.items ≡ l.initial.nodes.items ++ more);
  long : length l.nodes.items ≡ l.at;
  room : l.count ≤ vec_capacity l.nodes;
}
