use Rattle.std.proofs.Common.{◌≡◌, map, take}
use Rattle.mapworld_text.proofs.again.programs_again.Given as goal

abbrev pub invariant-loop-program : goal.invariant-loop-program
invariant-loop-program l =
    map (λ program. program.items) l.again.items ≡ map (λ program. program.items) (take l.program-index l.programs)
