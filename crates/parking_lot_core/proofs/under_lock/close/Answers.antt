use Rattle.parking_lot_core.specs.Shared.{WasHeld}
use Rattle.parking_lot_core.proofs.under_lock.close.Goals as goal

-- the lock was given back
pub returns : goal.returns
unfolding WasHeld
returns g c = λ old new freed. tt
