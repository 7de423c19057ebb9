use Rattle.parking_lot_world.proofs.Casing.{each_step_is_paid_for}
use Rattle.parking_lot_world.proofs.laws.each_step_is_paid_for.Goals as goal

pub returns : goal.returns
returns c = each_step_is_paid_for c.steps_are_paid_for.ensures
