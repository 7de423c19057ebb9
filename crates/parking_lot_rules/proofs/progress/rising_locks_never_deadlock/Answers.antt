use Rattle.parking_lot_rules.proofs.Moving.{no_deadlock}
use Rattle.parking_lot_rules.proofs.Running.{reached_sound}
use Rattle.parking_lot_rules.proofs.progress.rising_locks_never_deadlock.Goals as goal

pub returns : goal.returns
returns c bucket recursive w reached = no_deadlock bucket w (reached_sound bucket recursive w reached)
