use Rattle.parking_lot_rules.specs.Once.OnceLaws.{SleepersAreKnown}
use Rattle.parking_lot_rules.proofs.OnceFacts.Soundness.{always}
use Rattle.parking_lot_rules.proofs.OnceFacts.Following.{sleepers_are_known}
use Rattle.parking_lot_rules.proofs.once.laws.sleepers_at_a_once_are_known.Goals as goal

pub returns : goal.returns
returns c = always SleepersAreKnown sleepers_are_known
