use Rattle.parking_lot_rules.specs.Laws.{SleepersAreKnown}
use Rattle.parking_lot_rules.proofs.Running.{always}
use Rattle.parking_lot_rules.proofs.Following.{sleepers_are_known}
use Rattle.parking_lot_rules.proofs.laws.sleepers_are_known.Goals as goal

pub returns : goal.returns
returns c = always SleepersAreKnown sleepers_are_known
