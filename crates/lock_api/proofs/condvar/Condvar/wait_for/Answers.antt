use Rattle.lock_api.proofs.Refusing.{refused_as}
use Rattle.lock_api.proofs.condvar.Condvar.wait_for.Goals as goal

pub returns-clause-refused : goal.returns-clause-refused
returns-clause-refused g c = refused_as _ _ _ _ _ c.timed.ensures c.waits_for.ensures.refused
