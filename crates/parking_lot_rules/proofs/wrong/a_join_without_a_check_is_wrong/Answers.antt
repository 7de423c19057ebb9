use Rattle.parking_lot_rules.proofs.Wrongs.{joins_unchecked}
use Rattle.parking_lot_rules.proofs.wrong.a_join_without_a_check_is_wrong.Goals as goal

pub returns : goal.returns
returns c = joins_unchecked
