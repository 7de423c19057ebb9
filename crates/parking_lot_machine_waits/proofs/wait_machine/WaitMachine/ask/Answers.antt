use Rattle.std.proofs.Common.{◌≡◌, true, sym, subst}
use Rattle.parking_lot_machine_waits.specs.Joint.{Joint}
use Rattle.parking_lot_machine_waits.specs.JointMoves.{may_ask}
use Rattle.parking_lot_machine_waits.proofs.wait_machine.WaitMachine.ask.Goals as goal

pub invariant_of-self : goal.invariant_of-self
invariant_of-self g c =
    let i = c.self.inside.machines in
    let j = c.ask.new.self in
    let may = subst (λ (x : Joint). may_ask x c.args.thread c.args.lock c.args.call ≡ true) (sym c.self.view_is)
    c.requires.may in (
      c.stays_whole.ensures.asks c.args.thread c.args.lock c.args.call i j c.self.invariant.0 may c.ask.ensures,
      c.givers_stay_out.ensures.asks c.args.thread c.args.lock c.args.call i j c.self.invariant.0
          (record { rows = c.known.ensures.locks; vars = c.known.ensures.variables }) c.self.invariant.1 may
          c.ask.ensures,
    )
