use Rattle.parking_lot_rules.proofs.Wrongs.{goes_past_a_writer}
use Rattle.parking_lot_rules.proofs.wrong.a_scan_past_a_writer_is_wrong.Goals as goal

pub returns : goal.returns
returns c = goes_past_a_writer
