use Rattle.parking_lot_rules.proofs.Moving.{sections_are_entered}
use Rattle.parking_lot_rules.proofs.Running.{reached_sound}
use Rattle.parking_lot_rules.proofs.progress.sections_are_entered.Goals as goal

pub returns : goal.returns
returns c bucket recursive w reached = sections_are_entered bucket w (reached_sound bucket recursive w reached)
