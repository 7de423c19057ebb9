use Rattle.std.proofs.Common.{◌≡◌, take}
use Rattle.std.specs.List.{sum_by}
use Rattle.mapworld_state.specs.Core.{blocks_of}
use Rattle.mapworld.proofs.making.blocks_in.Given as goal

abbrev pub invariant-loop-program : goal.invariant-loop-program
invariant-loop-program g l = l.blocks ≡ sum_by (λ program. sum_by (blocks_of l.shards) program.items)
    (take l.program-index l.programs)
