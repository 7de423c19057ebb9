-- A world that is run to its end.
use Rattle.std.specs.Prelude.{◌≡◌, ℕ, true, false, List, [], ◌∷◌, length}
use Rattle.mapworld_calls.specs.Setup.{Setup}
use Rattle.mapworld_state.specs.declared.step.Step.{Step}
use Rattle.mapworld_state.specs.Running.{can_move_in}
use Rattle.mapworld_state.specs.State.{State}
use Rattle.mapworld_state.specs.Steps.{IsStep}
use Rattle.mapworld.specs.Atomic.{IsAtomic}

-- the steps lead from one world to the other, one after another, each of a thread that can move then, no deadline, and
-- of one kind, which does one thing
abbrev pub Drained : {K V S D T A : Type 0} → Setup K V D T → State K V S D T A → List Step → State K V S D T A → Type 0
Drained x w [] w' = w' ≡ w
Drained {K} {V} {S} {D} {T} {A} x w (s ∷ steps) w' =
    (mid : State K V S D T A) × (can_move_in w s.thread ≡ true) × (s.deadline ≡ false) × IsStep x w s mid
    × IsAtomic x.eq w s mid × Drained x mid steps w'

-- as many steps do
pub record DrainedBy {K V S D T A : Type 0} (x : Setup K V D T) (w : State K V S D T A) (n : ℕ)
    (w' : State K V S D T A) : Type 0 where
  pub steps : List Step
  pub count : length steps ≡ n
  pub made : Drained x w steps w'
