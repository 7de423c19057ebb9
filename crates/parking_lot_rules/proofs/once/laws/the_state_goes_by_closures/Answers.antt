use Rattle.parking_lot_rules.specs.Once.OnceLaws.{StateGoes}
use Rattle.parking_lot_rules.proofs.OnceFacts.Following.{throughout, state_goes}
use Rattle.parking_lot_rules.proofs.once.laws.the_state_goes_by_closures.Goals as goal

pub returns : goal.returns
returns c = throughout StateGoes state_goes
