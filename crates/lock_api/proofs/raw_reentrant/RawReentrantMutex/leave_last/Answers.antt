use Rattle.lock_api.specs.Leaves.{WasTakenOut}
use Rattle.lock_api.proofs.raw_reentrant.RawReentrantMutex.leave_last.Goals as goal

pub returns-in-Some-clause-taken : goal.returns-in-Some-clause-taken
unfolding WasTakenOut
returns-in-Some-clause-taken g c = tt

pub returns-in-None-clause-taken : goal.returns-in-None-clause-taken
unfolding WasTakenOut
returns-in-None-clause-taken g c = tt
