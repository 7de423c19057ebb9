use Rattle.parking_lot_rules.proofs.Wrongs.{debts_alone_break}
use Rattle.parking_lot_rules.proofs.wrong.debts_alone_are_not_kept.Goals as goal

pub returns : goal.returns
returns c = debts_alone_break
