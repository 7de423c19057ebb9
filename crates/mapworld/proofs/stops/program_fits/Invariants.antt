use Rattle.std.proofs.Common.{◌≡◌, ℕ, ◌<◌, Some, slice_get}
use Rattle.mapworld_calls.specs.declared.ask.Ask.{Ask}
use Rattle.mapworld.specs.Stops.{StopFits}
use Rattle.mapworld.proofs.stops.program_fits.Given as goal

abbrev pub invariant-loop-call : goal.invariant-loop-call
invariant-loop-call g l = (c : ℕ) (a : Ask _ _ _) → c < l.call-index → slice_get l.program c ≡ Some a → StopFits a
