use Rattle.std.proofs.Common.{take, drop}
use Rattle.parking_lot_machine.specs.Rows.{state}
use Rattle.parking_lot_machine_waits.specs.Moving.{AreMoved, MayMove}
use Rattle.parking_lot_machine_waits.proofs.moving.move_rest.Given as goal

-- those so far are moved, and the others may be
abbrev pub invariant-loop-waiter : goal.invariant-loop-waiter
invariant-loop-waiter g l = record {
  moved : AreMoved l.seats l.machine l.lock (take l.waiter-index l.waiters) (state l.initial.rows) (state l.rows);
  may : MayMove l.seats l.machine l.lock (drop l.waiter-index l.waiters) (state l.rows);
}
