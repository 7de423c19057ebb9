use Rattle.parking_lot_rules.proofs.Wrongs.{stores_zero}
use Rattle.parking_lot_rules.proofs.wrong.a_store_of_zero_with_waiters_is_wrong.Goals as goal

pub returns : goal.returns
returns c = stores_zero
