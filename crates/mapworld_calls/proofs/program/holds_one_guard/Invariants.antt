use Rattle.std.proofs.Common.{◌≡◌, false, drop}
use Rattle.mapworld_calls.specs.Programs.{one_guard}
use Rattle.mapworld_calls.proofs.program.holds_one_guard.Given as goal

abbrev pub invariant-loop-ask : goal.invariant-loop-ask
invariant-loop-ask g l = one_guard false l.program ≡ one_guard l.held (drop l.ask-index l.program)
