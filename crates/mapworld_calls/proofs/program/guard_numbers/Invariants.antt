use Rattle.std.proofs.Common.{◌≡◌, take}
use Rattle.std.specs.List.{sum_by}
use Rattle.mapworld_calls.specs.Programs.{numbers_of, saturated}
use Rattle.mapworld_calls.proofs.program.guard_numbers.Given as goal

abbrev pub invariant-loop-ask : goal.invariant-loop-ask
invariant-loop-ask g l = l.numbers ≡ saturated (sum_by (numbers_of l.shards) (take l.ask-index l.program))
