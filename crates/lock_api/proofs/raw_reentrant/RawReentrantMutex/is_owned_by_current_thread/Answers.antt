use Rattle.lock_api.specs.Leaves.{IsOwner}
use Rattle.lock_api.proofs.raw_reentrant.RawReentrantMutex.is_owned_by_current_thread.Goals as goal

pub returns : goal.returns
unfolding IsOwner
returns g c = λ _. tt
