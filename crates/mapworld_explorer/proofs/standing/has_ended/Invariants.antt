use Rattle.std.proofs.Common.{◌≡◌, ℕ, ◌<◌, false}
use Rattle.mapworld_state.specs.Running.{can_move_in}
use Rattle.mapworld_explorer.proofs.standing.has_ended.Given as goal

-- none of the threads so far can move
abbrev pub invariant-loop-thread : goal.invariant-loop-thread
invariant-loop-thread l = (t : ℕ) → t < l.thread → can_move_in l.world t ≡ false
