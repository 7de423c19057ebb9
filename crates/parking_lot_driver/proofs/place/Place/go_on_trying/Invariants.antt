use Rattle.parking_lot_driver.specs.Tries.{WasToldOf}
use Rattle.parking_lot_driver.proofs.place.Place.go_on_trying.Given as goal

-- the core was told of as many acts as the loop counts, it tries still, and what is in hand is of this lock
abbrev pub invariant-loop-made : goal.invariant-loop-made
invariant-loop-made g l =
    WasToldOf g.C.DecisionCore.told g.C.DecisionCore.asks g.K.Call.begun l._made l.core × g.K.TryCall.trying l.core
    × g.K.TryCall.is_of l.kept l.self.row.now.shared.now.word
