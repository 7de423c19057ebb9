use Rattle.std.proofs.Common.{◌≡◌, length, take}
use Rattle.std.specs.List.{sum_by}
use Rattle.mapworld_calls.specs.Programs.{saturated}
use Rattle.mapworld_explorer.proofs.worlds.calls_in.Given as goal

abbrev pub invariant-loop-program : goal.invariant-loop-program
invariant-loop-program l =
    l.calls ≡ saturated (sum_by (λ program. length program.items) (take l.program-index l.programs))
