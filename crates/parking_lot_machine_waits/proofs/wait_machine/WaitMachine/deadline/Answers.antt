use Rattle.std.proofs.Common.{◌≡◌, true, sym, subst}
use Rattle.parking_lot_machine_waits.specs.Joint.{Joint}
use Rattle.parking_lot_machine_waits.specs.JointLaws.{PartsFit}
use Rattle.parking_lot_machine_waits.specs.JointMoves.{may_expire}
use Rattle.parking_lot_machine_waits.proofs.wait_machine.WaitMachine.deadline.Goals as goal

pub invariant_of-self : goal.invariant_of-self
invariant_of-self g c =
    let i = c.self.inside.machines in
    let j = c.deadline.new.self in
    let parts : PartsFit i = record { rows = c.known.ensures.locks; vars = c.known.ensures.variables } in
    let may = subst (λ (x : Joint). may_expire x c.args.thread ≡ true) (sym c.self.view_is) c.requires.may in (
      c.stays_whole.ensures.deadlines c.args.thread i j c.self.invariant.0 parts may c.deadline.ensures,
      c.givers_stay_out.ensures.deadlines c.args.thread i j c.self.invariant.0 parts c.self.invariant.1 may
          c.deadline.ensures,
    )
