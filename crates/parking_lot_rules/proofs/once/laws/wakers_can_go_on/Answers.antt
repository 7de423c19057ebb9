use Rattle.parking_lot_rules.specs.Once.OnceLaws.{WakersCanGoOn}
use Rattle.parking_lot_rules.proofs.OnceFacts.Soundness.{always}
use Rattle.parking_lot_rules.proofs.OnceFacts.Following.{wakers_can_go_on}
use Rattle.parking_lot_rules.proofs.once.laws.wakers_can_go_on.Goals as goal

pub returns : goal.returns
returns c = always WakersCanGoOn wakers_can_go_on
