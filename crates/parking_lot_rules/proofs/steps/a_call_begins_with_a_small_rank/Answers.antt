use Rattle.parking_lot_rules.specs.Ranks.{RanksBegin}
use Rattle.parking_lot_rules.proofs.Running.{throughout}
use Rattle.parking_lot_rules.proofs.Ranking.{ranks_begin}
use Rattle.parking_lot_rules.proofs.steps.a_call_begins_with_a_small_rank.Goals as goal

pub returns : goal.returns
returns c = throughout RanksBegin ranks_begin
