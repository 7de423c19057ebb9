use Rattle.parking_lot_rules.specs.Once.Once.{IsSound}
use Rattle.parking_lot_rules.proofs.OnceFacts.Soundness.{always}
use Rattle.parking_lot_rules.proofs.once.laws.every_once_is_sound.Goals as goal

pub returns : goal.returns
returns c = always IsSound (λ m sound. sound)
