use Rattle.parking_lot_rules.proofs.Everys.{reached_sound}
use Rattle.parking_lot_rules.proofs.many.every_lock_of_every_kind_is_sound.Goals as goal

pub returns : goal.returns
returns c = reached_sound
