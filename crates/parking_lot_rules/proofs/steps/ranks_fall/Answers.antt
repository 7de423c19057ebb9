use Rattle.parking_lot_rules.specs.Ranks.{RanksFall}
use Rattle.parking_lot_rules.proofs.Running.{throughout}
use Rattle.parking_lot_rules.proofs.Ranking.{ranks_fall}
use Rattle.parking_lot_rules.proofs.steps.ranks_fall.Goals as goal

pub returns : goal.returns
returns c = throughout RanksFall ranks_fall
