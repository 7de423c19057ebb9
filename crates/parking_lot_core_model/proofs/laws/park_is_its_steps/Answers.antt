use Rattle.parking_lot_core_model.proofs.Whole.{park_in_steps, invalid_in_steps}
use Rattle.parking_lot_core_model.proofs.laws.park_is_its_steps.Goals as goal

pub returns : goal.returns
returns c = record { valid = park_in_steps; invalid = invalid_in_steps }
