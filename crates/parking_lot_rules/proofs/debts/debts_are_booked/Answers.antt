use Rattle.parking_lot_rules.specs.Debts.{DebtsAreBooked}
use Rattle.parking_lot_rules.proofs.Running.{throughout}
use Rattle.parking_lot_rules.proofs.Indebted.{debts_are_booked}
use Rattle.parking_lot_rules.proofs.debts.debts_are_booked.Goals as goal

pub returns : goal.returns
returns c = throughout DebtsAreBooked debts_are_booked
