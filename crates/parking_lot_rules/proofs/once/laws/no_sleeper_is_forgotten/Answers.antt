use Rattle.parking_lot_rules.specs.Once.OnceLaws.{NobodyIsForgotten}
use Rattle.parking_lot_rules.proofs.OnceFacts.Soundness.{always}
use Rattle.parking_lot_rules.proofs.OnceFacts.Following.{nobody_is_forgotten}
use Rattle.parking_lot_rules.proofs.once.laws.no_sleeper_is_forgotten.Goals as goal

pub returns : goal.returns
returns c = always NobodyIsForgotten nobody_is_forgotten
