use Rattle.parking_lot_rules.proofs.Everys.{acts_sound}
use Rattle.parking_lot_rules.proofs.many.steps_at_two_locks_keep_families_sound.Goals as goal

pub returns : goal.returns
returns c = acts_sound
