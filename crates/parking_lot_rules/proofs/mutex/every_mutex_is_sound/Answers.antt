use Rattle.parking_lot_rules.specs.Mutex.{IsSound}
use Rattle.parking_lot_rules.proofs.MutexRuns.{always}
use Rattle.parking_lot_rules.proofs.mutex.every_mutex_is_sound.Goals as goal

pub returns : goal.returns
returns c = always IsSound (λ m sound. sound)
