use Rattle.parking_lot_rules.proofs.OnceFacts.History.{closures_are_counted}
use Rattle.parking_lot_rules.proofs.once.laws.one_closure_ends_well_at_most.Goals as goal

pub returns : goal.returns
returns c = closures_are_counted
