use Rattle.parking_lot_rules.specs.Laws.{RefusalsHaveACause}
use Rattle.parking_lot_rules.proofs.Running.{always}
use Rattle.parking_lot_rules.proofs.Following.{refusals_have_a_cause}
use Rattle.parking_lot_rules.proofs.laws.a_refusal_has_a_cause.Goals as goal

pub returns : goal.returns
returns c = always RefusalsHaveACause refusals_have_a_cause
