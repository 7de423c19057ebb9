use Rattle.lock_api.specs.Leaves.{WasPutIn}
use Rattle.lock_api.proofs.raw_reentrant.RawReentrantMutex.begin.Goals as goal

pub returns-clause-begun : goal.returns-clause-begun
unfolding WasPutIn
returns-clause-begun g c = tt
