use Rattle.std.proofs.Common.{◌≡◌, ◌≤◌, take}
use Rattle.std.specs.List.{sum_by}
use Rattle.mapworld_state.specs.Core.{ask_lists}
use Rattle.mapworld.proofs.beginning.program_lists.Given as goal

abbrev pub invariant-loop-ask : goal.invariant-loop-ask
invariant-loop-ask g l = (l.lists ≡ sum_by ask_lists (take l.ask-index l.program)) × (l.lists ≤ l.ask-index)
