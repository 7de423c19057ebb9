use Rattle.std.proofs.Common.{◌≡◌, true, sym, subst}
use Rattle.parking_lot_machine_waits.specs.Joint.{Joint}
use Rattle.parking_lot_machine_waits.specs.JointLaws.{PartsFit}
use Rattle.parking_lot_machine_waits.specs.JointMoves.{may_go}
use Rattle.parking_lot_machine_waits.proofs.Allowing.{is_ready_then}
use Rattle.parking_lot_machine_waits.proofs.wait_machine.WaitMachine.step.Goals as goal

pub step-requires-clause-ready : goal.step-requires-clause-ready
step-requires-clause-ready g c = is_ready_then c.self.inside.machines c.args.thread c.self.invariant.0
    (record { rows = c.known.ensures.locks; vars = c.known.ensures.variables })

pub invariant_of-self : goal.invariant_of-self
invariant_of-self g c =
    let i = c.self.inside.machines in
    let j = c.step.new.self in
    let parts : PartsFit i = record { rows = c.known.ensures.locks; vars = c.known.ensures.variables } in
    let may = subst (λ (x : Joint). may_go x c.args.thread ≡ true) (sym c.self.view_is) c.requires.can in (
      c.stays_whole.ensures.steps c.args.thread c.args.fair c.step.result i j c.self.invariant.0 parts may
          c.step.ensures,
      c.givers_stay_out.ensures.steps c.args.thread c.args.fair c.step.result i j c.self.invariant.0 parts
          c.self.invariant.1 may c.step.ensures,
    )
