use Rattle.std.proofs.Common.{◌≡◌, ◌++◌}
use Rattle.mapworld_state.specs.State.{pairs_of}
use Rattle.mapworld_explorer.proofs.reading.pairs_in.Given as goal

-- the pairs that are listed, and then those that are left
abbrev pub invariant-loop-key : goal.invariant-loop-key
invariant-loop-key l = l.pairs.items ++ l.key-iterator ≡ pairs_of l.world
