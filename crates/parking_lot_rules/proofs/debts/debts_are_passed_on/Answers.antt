use Rattle.parking_lot_rules.specs.Debts.{DebtsArePassedOn}
use Rattle.parking_lot_rules.proofs.Running.{throughout}
use Rattle.parking_lot_rules.proofs.Paying.{debts_are_passed_on}
use Rattle.parking_lot_rules.proofs.debts.debts_are_passed_on.Goals as goal

pub returns : goal.returns
returns c = throughout DebtsArePassedOn debts_are_passed_on
