use Rattle.parking_lot_core.specs.Shared.{WasHeld}
use Rattle.parking_lot_core.proofs.under_lock.give_both_back.Goals as goal

-- the locks were given back
pub returns : goal.returns
unfolding WasHeld
returns g c = λ old new from to shift both. tt
