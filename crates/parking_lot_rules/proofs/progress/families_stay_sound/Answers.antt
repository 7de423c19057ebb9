use Rattle.parking_lot_rules.proofs.MutexCrossing.{families_stay_sound}
use Rattle.parking_lot_rules.proofs.progress.families_stay_sound.Goals as goal

pub returns : goal.returns
returns c = families_stay_sound
