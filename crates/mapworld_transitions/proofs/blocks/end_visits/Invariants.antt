use Rattle.std.proofs.Common.{take, ◌≡◌, length, vec_capacity}
use Rattle.mapworld_state.specs.Moves.{EndsVisits}
use Rattle.mapworld_transitions.proofs.blocks.end_visits.Given as goal

abbrev pub invariant-loop-index : goal.invariant-loop-index
invariant-loop-index g l =
    EndsVisits l.fn.blocks.items (take l.index-index l.fn.visits) l.fn.end l.blocks.items
    × (length l.blocks.items ≡ length l.fn.blocks.items) × (vec_capacity l.blocks ≡ vec_capacity l.fn.blocks)
