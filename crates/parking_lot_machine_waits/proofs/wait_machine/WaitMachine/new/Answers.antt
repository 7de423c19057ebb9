use Rattle.parking_lot_machine_waits.proofs.NewWhole.{new_givers, new_whole}
use Rattle.parking_lot_machine_waits.proofs.wait_machine.WaitMachine.new.Goals as goal

pub invariant_of-result : goal.invariant_of-result
invariant_of-result g c =
    let made = c.in_ok-machines.ensures in
    let j = c.in_ok-machines.machines in (
      new_whole j c.args.threads c.args.kinds.items c.args.variables.now made.rows made.vars made.seats,
      new_givers j c.args.threads c.args.kinds.items c.args.variables.now made.rows made.vars made.seats,
    )
