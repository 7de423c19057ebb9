use Rattle.parking_lot_rules.specs.Once.OnceLaws.{NothingIsLeft}
use Rattle.parking_lot_rules.proofs.OnceFacts.Soundness.{always}
use Rattle.parking_lot_rules.proofs.OnceFacts.Following.{nothing_is_left}
use Rattle.parking_lot_rules.proofs.once.laws.nothing_outlives_the_calls_at_a_once.Goals as goal

pub returns : goal.returns
returns c = always NothingIsLeft nothing_is_left
