use Rattle.std.proofs.Common.{◌≡◌, take}
use Rattle.parking_lot_machine.specs.Rows.{state, taken_by}
use Rattle.mapworld_state.specs.Locks.Moves.{all_admitted}
use Rattle.mapworld_state.specs.Locks.Views.{held_at}
use Rattle.mapworld_state.proofs.locks.desks.admit_taken.Given as goal

-- those of the wakeups before this one are admitted
abbrev pub invariant-loop-wakeup : goal.invariant-loop-wakeup
invariant-loop-wakeup g l = l.desk ≡ all_admitted (held_at (state l.machine) l.shard)
    (taken_by (take l.wakeup-index (state l.machine).wakes) l.thread) l.fn.desk
