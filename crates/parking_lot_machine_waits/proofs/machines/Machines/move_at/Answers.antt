use Rattle.std.proofs.Common.{ℕ, Bool, sym, subst}
use Rattle.parking_lot_machine.specs.Rows.{state}
use Rattle.parking_lot_machine_waits.specs.Joint.{var_at, var_in}
use Rattle.parking_lot_machine_waits.specs.JointSteps.{MayMoveIn, is_locked, takes_now}
use Rattle.parking_lot_machine_waits.specs.Moving.{MayNotifyIn}
use Rattle.parking_lot_machine_waits.proofs.Moves.{may_moves}
use Rattle.parking_lot_machine_waits.proofs.Notifying.{may_notifies}
use Rattle.parking_lot_machine_waits.proofs.machines.Machines.move_at.Goals as goal

pub move_waiters-count-requires : goal.move_waiters-count-requires
move_waiters-count-requires g c =
    let j = c.args.self.now in
    let o = var_at j c.args.variable in
    record {
      may = subst (λ (b : Bool). MayMoveIn o b j.seats c.shown-lock.result.0 (takes_now c.args.call.call o)
          (state j.rows)) (sym c.shown-lock.ensures.locked)
          (subst (λ (l : ℕ). MayMoveIn o (is_locked j l) j.seats l (takes_now c.args.call.call o) (state j.rows))
          (sym c.shown-lock.ensures.lock)
          (may_moves j o c.args.call.call (c.known.ensures.variables c.args.variable) c.requires.can));
    }

pub notify_at-requires : goal.notify_at-requires
notify_at-requires g c =
    let o = var_at c.args.self.now c.args.variable in
    record {
      may = subst (λ (x : _). MayNotifyIn c.args.thread c.shown-lock.result.1 c.move_waiters-count.result
          (var_in x c.args.variable)) (sym c.move_waiters-count.ensures.vars)
          (subst (λ (n : ℕ). MayNotifyIn c.args.thread c.shown-lock.result.1 n o)
          (sym c.move_waiters-count.ensures.count)
          (may_notifies o c.args.thread c.args.call c.shown-lock.result.1
          (c.known.ensures.variables c.args.variable) c.requires.here c.requires.turn));
    }
