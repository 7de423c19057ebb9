use Rattle.std.proofs.Common.{◌-◌}
use Rattle.parking_lot_machine_waits.specs.Moving.{AreTaken, MayTake}
use Rattle.parking_lot_machine_waits.proofs.moving.take_all.Given as goal

-- those so far are taken, and the others may be
abbrev pub invariant-loop : goal.invariant-loop
invariant-loop g l = record {
  taken : AreTaken l.thread l.counter l.initial.machine l.machine;
  may : MayTake l.thread (l.count - l.counter) l.machine;
}
