use Rattle.parking_lot_rules.proofs.Holding.{holds_are_within}
use Rattle.parking_lot_rules.proofs.holds.holds_are_within_the_limit.Goals as goal

pub returns : goal.returns
returns c = holds_are_within
