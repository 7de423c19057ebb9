use Rattle.std.proofs.Common.{◌≡◌, ◌≤◌, length, vec_capacity}
use Rattle.std.specs.List.{All}
use Rattle.mapworld_state.specs.Locks.Fresh.{IsEmptyFor}
use Rattle.mapworld_state.proofs.locks.new_locks.desks_for.Given as goal

-- so many desks are made, and there is room for all
abbrev pub invariant-loop : goal.invariant-loop
invariant-loop g l = All (IsEmptyFor l.threads) l.desks.items × (length l.desks.items ≡ l.counter)
    × (l.shards ≤ vec_capacity l.desks)
