use Rattle.parking_lot_rules.specs.Every.{NobodyIsForgotten}
use Rattle.parking_lot_rules.proofs.Everys.{everywhere}
use Rattle.parking_lot_rules.proofs.Alive.{nobody_is_forgotten}
use Rattle.parking_lot_rules.proofs.many.nobody_is_forgotten.Goals as goal

pub returns : goal.returns
returns c = everywhere NobodyIsForgotten nobody_is_forgotten
