use Rattle.parking_lot_driver.specs.Ends.{mutex_asks, mutex_told}
use Rattle.parking_lot_driver.specs.Tries.{WasToldOf}
use Rattle.parking_lot_mutex.specs.Owning.{IsTrying}
use Rattle.parking_lot_protocol.specs.declared.mutex_phase.MutexPhase.TheVariants.{Trying}
use Rattle.parking_lot_mutex.proofs.raw_mutex.RawMutex.go_on_trying.Given as goal

-- the core was told of as many acts as the loop counts, and tries still
abbrev pub invariant-loop-made : goal.invariant-loop-made
invariant-loop-made g l =
    WasToldOf mutex_told mutex_asks (record { phase = Trying }) l._made l.core × IsTrying l.core.phase
