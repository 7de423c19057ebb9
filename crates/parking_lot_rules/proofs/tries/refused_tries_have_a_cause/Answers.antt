use Rattle.parking_lot_rules.proofs.Trying.{refused_tries}
use Rattle.parking_lot_rules.proofs.tries.refused_tries_have_a_cause.Goals as goal

pub returns : goal.returns
returns c = refused_tries
