use Rattle.parking_lot_rules.proofs.Wrongs.{forgets_the_writer}
use Rattle.parking_lot_rules.proofs.wrong.a_section_that_forgets_the_writer_is_wrong.Goals as goal

pub returns : goal.returns
returns c = forgets_the_writer
