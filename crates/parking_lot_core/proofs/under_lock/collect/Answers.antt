use Rattle.parking_lot_core.specs.Shared.{WasHeld}
use Rattle.parking_lot_core.proofs.under_lock.collect.Goals as goal

-- the lock was given back
pub returns-clause-held : goal.returns-clause-held
unfolding WasHeld
returns-clause-held g c = λ old new told. tt
