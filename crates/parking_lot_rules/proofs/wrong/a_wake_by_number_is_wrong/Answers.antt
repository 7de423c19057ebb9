use Rattle.parking_lot_rules.proofs.Wrongs.{wakes_by_number}
use Rattle.parking_lot_rules.proofs.wrong.a_wake_by_number_is_wrong.Goals as goal

pub returns : goal.returns
returns c = wakes_by_number
