use Rattle.lock_api_rw.specs.Holds.{IsValueTaken}
use Rattle.lock_api.proofs.mutex.Mutex.value_at_once.Goals as goal

-- the std lock was asked
pub returns-in-None : goal.returns-in-None
unfolding IsValueTaken
returns-in-None g c = tt
