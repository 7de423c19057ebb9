use Rattle.parking_lot_rules.specs.Laws.{OwnersExclude}
use Rattle.parking_lot_rules.proofs.Running.{always}
use Rattle.parking_lot_rules.proofs.Following.{owners_exclude}
use Rattle.parking_lot_rules.proofs.laws.owners_exclude_each_other.Goals as goal

pub returns : goal.returns
returns c = always OwnersExclude owners_exclude
