use Rattle.parking_lot_rules.specs.Once.OnceLaws.{DoneStays}
use Rattle.parking_lot_rules.proofs.OnceFacts.Soundness.{always}
use Rattle.parking_lot_rules.proofs.OnceFacts.History.{done_stays}
use Rattle.parking_lot_rules.proofs.once.laws.what_is_done_stays_done.Goals as goal

pub returns : goal.returns
returns c = always DoneStays done_stays
