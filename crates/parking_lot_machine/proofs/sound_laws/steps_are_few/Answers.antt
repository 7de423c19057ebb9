use Rattle.parking_lot_machine.proofs.Bounding.{steps_are_few}
use Rattle.parking_lot_machine.proofs.sound_laws.steps_are_few.Goals as goal

pub returns : goal.returns
returns c = steps_are_few
