use Rattle.parking_lot_rules.specs.Laws.{WordTells}
use Rattle.parking_lot_rules.proofs.Running.{always}
use Rattle.parking_lot_rules.proofs.Following.{word_tells}
use Rattle.parking_lot_rules.proofs.laws.the_word_tells_the_owners.Goals as goal

pub returns : goal.returns
returns c = always WordTells word_tells
