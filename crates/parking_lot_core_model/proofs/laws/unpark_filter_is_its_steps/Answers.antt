use Rattle.parking_lot_core_model.proofs.Filtering.{filter_in_steps}
use Rattle.parking_lot_core_model.proofs.laws.unpark_filter_is_its_steps.Goals as goal

pub returns : goal.returns
returns c = filter_in_steps
