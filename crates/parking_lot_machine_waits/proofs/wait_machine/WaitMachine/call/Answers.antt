use Rattle.std.proofs.Common.{◌≡◌, true, sym, subst}
use Rattle.parking_lot_machine_waits.specs.Joint.{Joint}
use Rattle.parking_lot_machine_waits.specs.JointMoves.{may_call_at}
use Rattle.parking_lot_machine_waits.proofs.wait_machine.WaitMachine.call.Goals as goal

pub invariant_of-self : goal.invariant_of-self
invariant_of-self g c =
    let i = c.self.inside.machines in
    let j = c.call.new.self in
    let may = subst (λ (x : Joint). may_call_at x c.args.thread c.args.variable c.args.call ≡ true) (sym c.self.view_is)
    c.requires.may in (
      c.stays_whole.ensures.calls c.args.thread c.args.variable c.args.call i j c.self.invariant.0 c.known.ensures.locks
          may c.call.ensures,
      c.givers_stay_out.ensures.calls c.args.thread c.args.variable c.args.call i j c.self.invariant.0
          (record { rows = c.known.ensures.locks; vars = c.known.ensures.variables }) c.self.invariant.1 may
          c.call.ensures,
    )
