use Rattle.parking_lot_rules.proofs.Running.{stays_at_its_lock}
use Rattle.parking_lot_rules.proofs.steps.a_step_stays_at_its_lock.Goals as goal

pub returns : goal.returns
returns c = stays_at_its_lock
