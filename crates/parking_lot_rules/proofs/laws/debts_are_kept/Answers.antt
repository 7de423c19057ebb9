use Rattle.parking_lot_rules.specs.Laws.{DebtsAreKept}
use Rattle.parking_lot_rules.proofs.Running.{always}
use Rattle.parking_lot_rules.proofs.Following.{debts_are_kept}
use Rattle.parking_lot_rules.proofs.laws.debts_are_kept.Goals as goal

pub returns : goal.returns
returns c = always DebtsAreKept debts_are_kept
