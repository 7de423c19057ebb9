use Rattle.parking_lot_rules.proofs.MutexTrying.{refused_tries}
use Rattle.parking_lot_rules.proofs.tries.refused_tries_at_a_mutex_have_a_cause.Goals as goal

pub returns : goal.returns
returns c = refused_tries
