use Rattle.lock_api.specs.Leaves.{WasFull, WasNested}
use Rattle.lock_api.proofs.raw_reentrant.RawReentrantMutex.nest.Goals as goal

pub returns-then-depth-self-clause-nested : goal.returns-then-depth-self-clause-nested
unfolding WasNested
returns-then-depth-self-clause-nested g c = tt

pub returns-else-depth-self-clause-full : goal.returns-else-depth-self-clause-full
unfolding WasFull
returns-else-depth-self-clause-full g c = tt
