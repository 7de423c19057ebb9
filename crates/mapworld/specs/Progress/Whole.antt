-- What holds of a world at every moment.
use Rattle.mapworld_calls.specs.Setup.{Setup}
use Rattle.mapworld_state.specs.Locks.Fits.{LocksFit}
use Rattle.mapworld_state.specs.Sound.{Sound}
use Rattle.mapworld_state.specs.State.{State}
use Rattle.mapworld.specs.Progress.Sizes.{IsSized}

pub record IsWhole {K V S D T A : Type 0} (x : Setup K V D T) (w : State K V S D T A) : Type 0 where
  pub sound : Sound x w
  pub locks : LocksFit w.locks
  pub sizes : IsSized w
