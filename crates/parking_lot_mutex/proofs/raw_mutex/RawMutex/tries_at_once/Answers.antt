use Rattle.std.proofs.Common.{◌∷◌, [], arith, refl}
use Rattle.parking_lot_driver.specs.Ends.{mutex_told}
use Rattle.parking_lot_driver.specs.Runs.{told_all}
use Rattle.parking_lot_driver.specs.Tries.{Admitted}
use Rattle.parking_lot_protocol.specs.declared.act.ActResult.TheVariants.{Word, Exchanged}
use Rattle.parking_lot_protocol.specs.declared.mutex_phase.MutexPhase.TheVariants.{Trying}
use Rattle.parking_lot_mutex.proofs.raw_mutex.RawMutex.tries_at_once.Goals as goal

-- the core was told of the word, and that the exchange was won
pub returns-in-Ok-clause-won : goal.returns-in-Ok-clause-won
unfolding Admitted
returns-in-Ok-clause-won g c =
    let seen = Exchanged ∷ Word 0 ∷ [] in (
      told_all mutex_told (record { phase = Trying }) seen,
      (refl, (2, omega arith, (seen, ((0, refl), ((0, refl), tt)), refl, refl))),
      refl,
    )
