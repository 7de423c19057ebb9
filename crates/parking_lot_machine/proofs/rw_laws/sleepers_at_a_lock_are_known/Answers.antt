use Rattle.parking_lot_machine.proofs.RwTaking.{sleepers_at_a_lock_are_known}
use Rattle.parking_lot_machine.proofs.rw_laws.sleepers_at_a_lock_are_known.Goals as goal

pub returns : goal.returns
returns c = sleepers_at_a_lock_are_known
