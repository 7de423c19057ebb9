use Rattle.std.proofs.Common.{◌≡◌, ℕ, ◌<◌, Some, slice_get}
use Rattle.std.specs.declared.vec.Vec.{Vec}
use Rattle.mapworld_calls.specs.declared.ask.Ask.{Ask}
use Rattle.mapworld.specs.Stops.{StopsFit}
use Rattle.mapworld.proofs.stops.programs_fit.Given as goal

abbrev pub invariant-loop-program : goal.invariant-loop-program
invariant-loop-program g l = (t : ℕ) (program : Vec (Ask _ _ _) _) → t < l.program-index
    → slice_get l.programs t ≡ Some program → StopsFit program.items
