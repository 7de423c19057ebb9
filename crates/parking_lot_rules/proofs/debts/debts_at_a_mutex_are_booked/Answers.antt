use Rattle.parking_lot_rules.specs.MutexDebts.{MutexDebtsAreBooked}
use Rattle.parking_lot_rules.proofs.MutexPaying.{throughout_mutex, debts_are_booked}
use Rattle.parking_lot_rules.proofs.debts.debts_at_a_mutex_are_booked.Goals as goal

pub returns : goal.returns
returns c = throughout_mutex MutexDebtsAreBooked debts_are_booked
