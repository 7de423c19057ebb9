use Rattle.parking_lot_machine.proofs.MutexRoles.{roles}
use Rattle.parking_lot_machine.proofs.mutex_laws.roles_at_a_mutex_are_known.Goals as goal

pub returns : goal.returns
returns c = roles
