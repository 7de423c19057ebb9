-- Which states a world can be in: those to which a schedule leads from a new one.
use Rattle.std.specs.Prelude.{◌≡◌, Bool, true, List, [], ◌∷◌, length, None}
use Rattle.std.specs.Hash.{HashWrites}
use Rattle.std.specs.declared.hash.BuildHasher as builder
use Rattle.std.specs.declared.hash.Hasher as hasher
use Rattle.mapworld_calls.specs.declared.deed.Deed as deed
use Rattle.mapworld_calls.specs.Setup.{Setup}
use Rattle.mapworld_state.specs.declared.step.Step.{Step}
use Rattle.mapworld_state.specs.Core.{state_of}
use Rattle.mapworld_state.specs.declared.world_core.Core.{Core}
use Rattle.mapworld_state.specs.Running.{may_step}
use Rattle.mapworld_state.specs.State.{State}
use Rattle.mapworld_state.specs.Steps.{IsStep}
use Rattle.mapworld_state.specs.World.{setup_of}
use Rattle.mapworld.specs.Beginning.{AreFilled}
use Rattle.mapworld.specs.Making.{new_refusal, IsNew}
use Rattle.mapworld.specs.Stops.{AllStopsFit}

-- A new world: its shards, pairs and programs are accepted, each pair is in the shard that its key routes to, and
-- nothing has happened.
pub record IsInitial {K V S D T A : Type 0} (x : Setup K V D T) (w : State K V S D T A) : Type 0 where
  pub accepted : new_refusal (length w.tables) (length w.opening) w.programs ≡ None
  -- numbers of items are of 64 bits
  pub stops : AllStopsFit w.programs
  pub new : IsNew x.eq (length w.tables) w.hasher w.opening w.programs w
  pub filled : AreFilled x.eq x.route w.opening w.tables

-- the schedule leads from the one state to the other: its steps are made one after another, each of one kind, and of a
-- thread that can move then, or whose deadline may come
abbrev pub LeadsTo : {K V S D T A : Type 0} → Setup K V D T → State K V S D T A → List Step → State K V S D T A → Type 0
LeadsTo x w [] w' = w' ≡ w
LeadsTo {K} {V} {S} {D} {T} {A} x w (s ∷ steps) w' = (mid : State K V S D T A) × (may_step w s ≡ true)
    × IsStep x w s mid × LeadsTo x mid steps w'

-- a schedule leads there from a new world
pub record IsReachable {K V S H D T A : Type 0} (d : deed.Ghosts D K V T) (b : builder.Ghosts S H)
    (h : hasher.Ghosts H) (eq : K → K → Bool) (writes : K → HashWrites) (w : State K V S D T A) : Type 0 where
  pub first : State K V S D T A
  pub schedule : List Step
  pub initial : IsInitial (setup_of d b h eq writes first) first
  pub leads : LeadsTo (setup_of d b h eq writes first) first schedule w

-- so it is of what the code keeps
abbrev pub CoreIsReachable : {K V S H D T A : Type 0} → deed.Ghosts D K V T → builder.Ghosts S H → hasher.Ghosts H
    → (K → K → Bool) → (K → HashWrites) → Core K V S D T A → Type 0
CoreIsReachable d b h eq writes c = IsReachable d b h eq writes (state_of c)
