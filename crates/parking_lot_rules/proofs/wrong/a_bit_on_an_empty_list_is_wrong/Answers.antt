use Rattle.parking_lot_rules.proofs.Wrongs.{leaves_the_bit}
use Rattle.parking_lot_rules.proofs.wrong.a_bit_on_an_empty_list_is_wrong.Goals as goal

pub returns : goal.returns
returns c = leaves_the_bit
