use Rattle.std.proofs.Common.{◌≡◌, ◌≤◌, length}
use Rattle.std.specs.Prelude.{vec_capacity}
use Rattle.parking_lot_world.specs.Worlds.{owners_below}
use Rattle.parking_lot_world.specs.Worlds.{mode_at}
use Rattle.parking_lot_world.proofs.world.World.owners.Given as goal

-- the owners among the threads so far, and room for the rest
abbrev pub invariant-loop-thread : goal.invariant-loop-thread
invariant-loop-thread g l = record {
  listed : l.owners.items ≡ owners_below (mode_at l.self l.lock) l.thread;
  few : length l.owners.items ≤ l.thread;
  room : l.threads ≤ vec_capacity l.owners;
}
