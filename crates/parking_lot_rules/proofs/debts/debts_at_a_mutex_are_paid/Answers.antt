use Rattle.parking_lot_rules.specs.MutexDebts.{MutexDebtsArePaid}
use Rattle.parking_lot_rules.proofs.MutexRuns.{always}
use Rattle.parking_lot_rules.proofs.MutexPaying.{debts_are_paid}
use Rattle.parking_lot_rules.proofs.debts.debts_at_a_mutex_are_paid.Goals as goal

pub returns : goal.returns
returns c = always MutexDebtsArePaid debts_are_paid
