use Rattle.std.proofs.Common.{◌≡◌, ◌≤◌, length}
use Rattle.std.specs.Prelude.{vec_capacity}
use Rattle.parking_lot_core_model.specs.Chains.{AreEmpty}
use Rattle.parking_lot_core_model.proofs.spread.add_chains.Given as goal

-- all are empty
abbrev pub invariant-loop-at : goal.invariant-loop-at
invariant-loop-at g l = record {
  empty : AreEmpty l.heads.items;
  long : length l.heads.items ≡ l.at;
  room : l.count ≤ vec_capacity l.heads;
}
