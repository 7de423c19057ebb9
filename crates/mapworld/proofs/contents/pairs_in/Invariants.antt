use Rattle.std.proofs.Common.{◌≡◌, ◌++◌, map}
use Rattle.dashmap_view.specs.Views.{all_pairs}
use Rattle.mapworld.specs.Views.{shown}
use Rattle.mapworld.proofs.contents.pairs_in.Given as goal

-- the pairs that are listed, and then those that are left
abbrev pub invariant-loop-pair : goal.invariant-loop-pair
invariant-loop-pair g l = map shown l.list.items ++ l.pair-iterator ≡ all_pairs l.shards
