-- A step that a thread makes itself.
use Rattle.std.proofs.Common.{◌≡◌, false, if◌then◌else◌, ap}
use Rattle.parking_lot_machine.specs.Machines.{may_expire}
use Rattle.parking_lot_machine.specs.Rows.{state}
use Rattle.mapworld_state.specs.declared.step.Step.{Step}
use Rattle.mapworld_state.specs.Running.{can_move_in, may_step}
use Rattle.mapworld_state.specs.State.{State}

-- it may be made where its thread can move
pub own-may : {K V S D T A : Type 0} (w : State K V S D T A) (s : Step) → s.deadline ≡ false
    → may_step w s ≡ can_move_in w s.thread
own-may w s mine =
    ap (λ b. if b then may_expire (state w.locks.rows) s.thread else can_move_in w s.thread) mine
