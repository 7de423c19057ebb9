use Rattle.lock_api_spin.specs.Turns.{Made, Missed}
use Rattle.lock_api_spin.proofs.packed_lock.PackedLock.turn.Goals as goal

-- the exchange was won
pub returns-in-Ok-clause-made : goal.returns-in-Ok-clause-made
unfolding Made
returns-in-Ok-clause-made g c = λ _. tt

-- the change wasn't admitted
pub returns-in_default-clause-missed : goal.returns-in_default-clause-missed
unfolding Missed
returns-in_default-clause-missed g c = λ _. tt

-- all exchanges were lost
pub returns-clause-missed : goal.returns-clause-missed
unfolding Missed
returns-clause-missed g c = λ _. tt
