use Rattle.parking_lot_rules.specs.Once.OnceLaws.{SomebodyIsAtWork}
use Rattle.parking_lot_rules.proofs.OnceFacts.Soundness.{always}
use Rattle.parking_lot_rules.proofs.OnceFacts.Following.{somebody_is_at_work}
use Rattle.parking_lot_rules.proofs.once.laws.somebody_is_at_work.Goals as goal

pub returns : goal.returns
returns c = always SomebodyIsAtWork somebody_is_at_work
