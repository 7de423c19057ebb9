use Rattle.parking_lot_rules.proofs.Moving.{sleepers_are_served}
use Rattle.parking_lot_rules.proofs.Running.{reached_sound}
use Rattle.parking_lot_rules.proofs.progress.sleepers_are_served.Goals as goal

pub returns : goal.returns
returns c bucket recursive w reached = sleepers_are_served bucket w (reached_sound bucket recursive w reached)
