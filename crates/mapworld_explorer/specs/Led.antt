-- How a world came to where it is.
use Rattle.std.specs.Prelude.{ℕ, Bool, List}
use Rattle.std.specs.Hash.{HashWrites}
use Rattle.std.specs.declared.hash.BuildHasher as builder
use Rattle.std.specs.declared.hash.Hasher as hasher
use Rattle.mapworld_calls.specs.declared.ask.Ask.{Ask}
use Rattle.mapworld_calls.specs.declared.deed.Deed as deed
use Rattle.mapworld_state.specs.declared.step.Step.{Step}
use Rattle.mapworld_state.specs.Running.{Ran}
use Rattle.mapworld_state.specs.State.{State}
use Rattle.mapworld_state.specs.World.{setup_of}
use Rattle.mapworld.specs.Making.{IsNew}

-- a new world of so many shards, with this hasher, these pairs and these programs, was led to w by the schedule: its
-- steps were made one after another, and none was refused
abbrev pub IsLedBy : {K V S H D T A : Type 0} → deed.Ghosts D K V T → builder.Ghosts S H → hasher.Ghosts H
    → (K → K → Bool) → (K → HashWrites) → ℕ → S → List (K × V) → List (List (Ask K V D)) → List Step
    → State K V S D T A → Type 0
IsLedBy {K} {V} {S} {H} {D} {T} {A} d b h eq writes shards s pairs programs schedule w =
    (first : State K V S D T A) × IsNew eq shards s pairs programs first
    × Ran (setup_of d b h eq writes first) 0 first schedule w
