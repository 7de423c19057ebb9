use Rattle.std.proofs.Common.{◌≡◌, ◌≤◌, length, map, take}
use Rattle.std.specs.Prelude.{vec_capacity}
use Rattle.parking_lot_machine_waits.specs.Joint.{thread_of}
use Rattle.parking_lot_machine_waits.proofs.machines.Machines.threads_of.Given as goal

-- the threads of the numbers so far, and room for the rest
abbrev pub invariant-loop-number : goal.invariant-loop-number
invariant-loop-number g l = record {
  listed : l.threads.items ≡ map (thread_of l.self) (take l.number-index l.numbers);
  few : length l.threads.items ≤ l.number-index;
  room : length l.numbers ≤ vec_capacity l.threads;
}
