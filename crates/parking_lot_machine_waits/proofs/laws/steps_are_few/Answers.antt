use Rattle.parking_lot_machine_waits.proofs.RankFew.{steps_are_few}
use Rattle.parking_lot_machine_waits.proofs.laws.steps_are_few.Goals as goal

pub returns : goal.returns
returns c = steps_are_few c.steps_are_few.ensures
