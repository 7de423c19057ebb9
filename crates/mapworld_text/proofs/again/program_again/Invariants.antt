use Rattle.std.proofs.Common.{◌≡◌, take}
use Rattle.mapworld_text.proofs.again.program_again.Given as goal

abbrev pub invariant-loop-ask : goal.invariant-loop-ask
invariant-loop-ask l = l.again.items ≡ take l.ask-index l.program
