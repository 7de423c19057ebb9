use Rattle.parking_lot_core_model.proofs.Whole.{going_on_in_steps}
use Rattle.parking_lot_core_model.proofs.laws.going_on_is_its_steps.Goals as goal

pub returns : goal.returns
returns c = going_on_in_steps
