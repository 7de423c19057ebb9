use Rattle.parking_lot_core_model.proofs.Whole.{first_in_steps}
use Rattle.parking_lot_core_model.proofs.laws.unpark_one_is_its_steps.Goals as goal

pub returns : goal.returns
returns c = first_in_steps
