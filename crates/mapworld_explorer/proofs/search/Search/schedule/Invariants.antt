use Rattle.std.proofs.Common.{◌≡◌, ℕ, ◌+◌, ◌++◌, reverse, slice_get}
use Rattle.mapworld_explorer.specs.Searches.{last_steps, steps_to}
use Rattle.mapworld_explorer.proofs.search.Search.schedule.Given as goal

-- with those that are left, the steps gone back are all
abbrev pub invariant-loop-step : goal.invariant-loop-step
invariant-loop-step l = (left : ℕ) → l._step + left ≡ l.steps
    → last_steps l.self.states.items l.steps l.state
    ≡ last_steps l.self.states.items left l.index ++ reverse l.schedule.items
