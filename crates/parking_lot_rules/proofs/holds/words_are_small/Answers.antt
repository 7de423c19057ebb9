use Rattle.parking_lot_rules.proofs.Holding.{words_are_small}
use Rattle.parking_lot_rules.proofs.holds.words_are_small.Goals as goal

pub returns : goal.returns
returns c = words_are_small
