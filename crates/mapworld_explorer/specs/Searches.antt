-- What a search shows of the states that it has found.
use Rattle.std.specs.Prelude.{ℕ, zero, suc, List, [], ◌∷◌, ◌++◌, length, Option, Some, None, slice_get}
use Rattle.mapworld_state.specs.declared.step.Step.{Step}
use Rattle.mapworld_explorer.specs.declared.search.Reached.{Reached}
use Rattle.mapworld_explorer.specs.declared.search.Search.{Search}

-- how many states it has found, and how many of these it has visited
abbrev pub found : Search → ℕ
found s = length s.states.items

abbrev pub visited : Search → ℕ
visited s = s.next

-- how a state was come to: by how many steps, from which one, and by which step
abbrev pub steps_to : Option Reached → ℕ
steps_to None = 0
steps_to (Some r) = r.steps

abbrev pub state_before : ℕ → Option Reached → ℕ
state_before state None = state
state_before state (Some r) = r.before

abbrev pub step_to : Option Reached → List Step
step_to None = []
step_to (Some r) = r.step ∷ []

-- the last so many steps on the way to a state, each from the state before it
abbrev pub last_steps : List Reached → ℕ → ℕ → List Step
last_steps states zero state = []
last_steps states (suc n) state =
    last_steps states n (state_before state (slice_get states state)) ++ step_to (slice_get states state)

-- all of them: the schedule by which a state was reached
abbrev pub way_to : Search → ℕ → List Step
way_to s state = last_steps s.states.items (steps_to (slice_get s.states.items state)) state
