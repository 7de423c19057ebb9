use Rattle.std.proofs.Common.{◌≡◌, ◌<◌, ◌^◌, take}
use Rattle.std.specs.List.{sum_by}
use Rattle.mapworld_calls.specs.Programs.{numbers_of}
use Rattle.mapworld.proofs.limits.numbers_in.Given as goal

abbrev pub invariant-loop-program : goal.invariant-loop-program
invariant-loop-program g l = (l.numbers ≡ sum_by (λ program. sum_by (numbers_of l.shards) program.items)
    (take l.program-index l.programs)) × (l.numbers < 2 ^ 32)
