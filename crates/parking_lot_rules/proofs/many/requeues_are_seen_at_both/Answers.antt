use Rattle.parking_lot_rules.specs.Every.{RequeuesAreSeenAtBoth}
use Rattle.parking_lot_rules.proofs.Everys.{everywhere}
use Rattle.parking_lot_rules.proofs.Alive.{requeues_are_seen}
use Rattle.parking_lot_rules.proofs.many.requeues_are_seen_at_both.Goals as goal

pub returns : goal.returns
returns c = everywhere RequeuesAreSeenAtBoth requeues_are_seen
