use Rattle.std.proofs.Common.{◌≡◌, ◌≤◌, ◌^◌, length, take}
use Rattle.std.specs.List.{sum_by}
use Rattle.mapworld.proofs.limits.calls_of.Given as goal

abbrev pub invariant-loop-program : goal.invariant-loop-program
invariant-loop-program g l = (l.calls ≡ sum_by (λ program. length program.items) (take l.program-index l.programs))
    × (l.calls ≤ 2 ^ 20)
