use Rattle.std.proofs.Common.{◌≡◌, ◌≤◌, length}
use Rattle.std.specs.Prelude.{vec_capacity}
use Rattle.parking_lot_world.specs.Worlds.{those_below}
use Rattle.parking_lot_world.specs.Worlds.{is_indebted}
use Rattle.parking_lot_world.proofs.world.World.debts.Given as goal

-- those in debt among the threads so far, and room for the rest
abbrev pub invariant-loop-thread : goal.invariant-loop-thread
invariant-loop-thread g l = record {
  listed : l.debtors.items ≡ those_below (is_indebted l.self) l.thread;
  few : length l.debtors.items ≤ l.thread;
  room : l.threads ≤ vec_capacity l.debtors;
}
