use Rattle.parking_lot_rules.specs.Once.OnceLaws.{WordTells}
use Rattle.parking_lot_rules.proofs.OnceFacts.Soundness.{always}
use Rattle.parking_lot_rules.proofs.OnceFacts.Following.{word_tells}
use Rattle.parking_lot_rules.proofs.once.laws.one_closure_runs_at_a_time.Goals as goal

pub returns : goal.returns
returns c = always WordTells word_tells
