use Rattle.parking_lot_world.proofs.Casing.{each_step_is_a_case}
use Rattle.parking_lot_world.proofs.laws.each_step_is_a_case.Goals as goal

pub returns : goal.returns
returns c = each_step_is_a_case c.each_step_is_a_case.ensures
