use Rattle.parking_lot_machine.proofs.Queueing.{lists_are_waiters}
use Rattle.parking_lot_machine.proofs.sound_laws.lists_are_waiters.Goals as goal

pub returns : goal.returns
returns c = lists_are_waiters
