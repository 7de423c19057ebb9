use Rattle.parking_lot_rules.specs.Debts.{DebtsArePaid}
use Rattle.parking_lot_rules.proofs.Running.{always}
use Rattle.parking_lot_rules.proofs.Paying.{debts_are_paid}
use Rattle.parking_lot_rules.proofs.debts.debts_are_paid.Goals as goal

pub returns : goal.returns
returns c = always DebtsArePaid debts_are_paid
