use Rattle.lock_api.specs.Leaves.{IsNested}
use Rattle.lock_api.proofs.raw_reentrant.RawReentrantMutex.depth_of_many.Goals as goal

pub returns-then-depth-gt1-clause-nested : goal.returns-then-depth-gt1-clause-nested
unfolding IsNested
returns-then-depth-gt1-clause-nested g c = tt
