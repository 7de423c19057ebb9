use Rattle.parking_lot_rules.specs.Ranks.{RanksChange}
use Rattle.parking_lot_rules.proofs.Running.{always}
use Rattle.parking_lot_rules.proofs.Ranking.{ranks_change}
use Rattle.parking_lot_rules.proofs.steps.another_thread_may_be_stepped.Goals as goal

pub returns : goal.returns
returns c = always RanksChange ranks_change
