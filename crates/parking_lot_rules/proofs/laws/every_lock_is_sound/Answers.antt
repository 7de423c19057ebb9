use Rattle.parking_lot_rules.specs.Lock.{IsSound}
use Rattle.parking_lot_rules.proofs.Running.{always}
use Rattle.parking_lot_rules.proofs.laws.every_lock_is_sound.Goals as goal

pub returns : goal.returns
returns c = always IsSound (λ l sound. sound)
