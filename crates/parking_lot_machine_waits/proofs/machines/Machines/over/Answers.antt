use Rattle.std.proofs.Common.{arith}
use Rattle.parking_lot_machine_waits.proofs.machines.Machines.over.Goals as goal

pub invariant_of-result : goal.invariant_of-result
invariant_of-result g c = (omega (arith, c.in_ok-vec.ensures.len, c.requires.few), c.in_ok-vars_of.ensures.known)
