use Rattle.parking_lot_rules.proofs.Wrongs.{keeps_its_bit}
use Rattle.parking_lot_rules.proofs.wrong.a_give_up_that_keeps_its_bit_is_wrong.Goals as goal

pub returns : goal.returns
returns c = keeps_its_bit
