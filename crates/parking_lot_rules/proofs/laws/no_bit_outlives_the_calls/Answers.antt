use Rattle.parking_lot_rules.specs.Laws.{NothingIsLeft}
use Rattle.parking_lot_rules.proofs.Running.{always}
use Rattle.parking_lot_rules.proofs.Following.{nothing_is_left}
use Rattle.parking_lot_rules.proofs.laws.no_bit_outlives_the_calls.Goals as goal

pub returns : goal.returns
returns c = always NothingIsLeft nothing_is_left
