-- Runs in which whoever is stepped can move.
use Rattle.std.specs.Prelude.{◌≡◌, ℕ, ◌+◌, ◌<◌, ◌^◌, Bool, true, false, List, [], ◌∷◌, length}
use Rattle.std.specs.Hash.{HashWrites}
use Rattle.std.specs.declared.hash.BuildHasher as builder
use Rattle.std.specs.declared.hash.Hasher as hasher
use Rattle.mapworld_calls.specs.declared.deed.Deed as deed
use Rattle.mapworld_calls.specs.Setup.{Setup}
use Rattle.mapworld_state.specs.declared.step.Step.{Step}
use Rattle.mapworld_state.specs.declared.world_core.Core.{Core}
use Rattle.mapworld_state.specs.Core.{state_of}
use Rattle.mapworld_state.specs.Running.{can_move_in}
use Rattle.mapworld_state.specs.State.{State}
use Rattle.mapworld_state.specs.Steps.{IsStep}
use Rattle.mapworld_state.specs.World.{setup_of}
use Rattle.mapworld.specs.Progress.Left.{left}
use Rattle.mapworld.specs.Progress.Whole.{IsWhole}

-- numbers are left for all steps that are left, whichever thread is stepped, and for one more
abbrev pub HasTime : {K V S D T A : Type 0} → Setup K V D T → State K V S D T A → Type 0
HasTime x w = (t : ℕ) → length w.steps + left x w t + 1 < 2 ^ 63

-- a step of one kind, of a thread that can move, and no deadline
pub record Makes {K V S D T A : Type 0} (x : Setup K V D T) (w : State K V S D T A) (s : Step)
    (w' : State K V S D T A) : Type 0 where
  pub moves : can_move_in w s.thread ≡ true
  pub own : s.deadline ≡ false
  pub kind : IsStep x w s w'
  pub whole : IsWhole x w

-- the steps lead from one world to the other, one after another
abbrev pub Drains : {K V S D T A : Type 0} → Setup K V D T → State K V S D T A → List Step → State K V S D T A → Type 0
Drains x w [] w' = w' ≡ w
Drains {K} {V} {S} {D} {T} {A} x w (s ∷ steps) w' = (mid : State K V S D T A) × Makes x w s mid × Drains x mid steps w'

-- as many steps do
pub record DrainsBy {K V S D T A : Type 0} (x : Setup K V D T) (w : State K V S D T A) (n : ℕ)
    (w' : State K V S D T A) : Type 0 where
  pub steps : List Step
  pub count : length steps ≡ n
  pub made : Drains x w steps w'

-- of what is kept, with its own setup: how many steps are left, and that numbers are left for them
abbrev pub core_left : {K V S H D T A : Type 0} → deed.Ghosts D K V T → builder.Ghosts S H → hasher.Ghosts H
    → (K → K → Bool) → (K → HashWrites) → Core K V S D T A → ℕ → ℕ
core_left d b h eq writes c = left (setup_of d b h eq writes (state_of c)) (state_of c)

abbrev pub IsInTime : {K V S H D T A : Type 0} → deed.Ghosts D K V T → builder.Ghosts S H → hasher.Ghosts H
    → (K → K → Bool) → (K → HashWrites) → Core K V S D T A → Type 0
IsInTime d b h eq writes c = HasTime (setup_of d b h eq writes (state_of c)) (state_of c)
