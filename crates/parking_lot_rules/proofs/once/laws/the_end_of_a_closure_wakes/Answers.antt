use Rattle.parking_lot_rules.specs.Once.OnceLaws.{SleepersAreWoken}
use Rattle.parking_lot_rules.proofs.OnceFacts.Soundness.{always}
use Rattle.parking_lot_rules.proofs.OnceFacts.Following.{sleepers_are_woken}
use Rattle.parking_lot_rules.proofs.once.laws.the_end_of_a_closure_wakes.Goals as goal

pub returns : goal.returns
returns c = always SleepersAreWoken sleepers_are_woken
