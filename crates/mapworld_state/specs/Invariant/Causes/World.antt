-- What is promised of tries in a world with its setup.
use Rattle.std.specs.Prelude.{Bool}
use Rattle.std.specs.Hash.{HashWrites}
use Rattle.std.specs.declared.hash.BuildHasher as builder
use Rattle.std.specs.declared.hash.Hasher as hasher
use Rattle.mapworld_calls.specs.declared.deed.Deed as deed
use Rattle.mapworld_calls.specs.Shards.{LockedHaveCauses}
use Rattle.mapworld_state.specs.declared.world_core.Core.{Core}
use Rattle.mapworld_state.specs.Core.{state_of}
use Rattle.mapworld_state.specs.State.{State, started_of}
use Rattle.mapworld_state.specs.World.{setup_of}
use Rattle.mapworld_state.specs.Invariant.Causes.Causes.{HasCauses, SleepersHaveCompany, WordsHaveCalls}

-- while each try that was answered `Locked` was under way, a call of another thread was on its shard
abbrev pub TriesHaveCauses : {K V S H D T A : Type 0} → deed.Ghosts D K V T → builder.Ghosts S H → hasher.Ghosts H
    → (K → K → Bool) → (K → HashWrites) → State K V S D T A → Type 0
TriesHaveCauses d b h eq writes w = LockedHaveCauses (setup_of d b h eq writes w) (started_of w) w.blocks w.replies

-- where the word of a shard's lock isn't 0, a call is on the shard now
abbrev pub TakenShardsAreUsed : {K V S H D T A : Type 0} → deed.Ghosts D K V T → builder.Ghosts S H → hasher.Ghosts H
    → (K → K → Bool) → (K → HashWrites) → State K V S D T A → Type 0
TakenShardsAreUsed d b h eq writes w = WordsHaveCalls (setup_of d b h eq writes w) w

abbrev pub CoreHasCauses : {K V S H D T A : Type 0} → deed.Ghosts D K V T → builder.Ghosts S H → hasher.Ghosts H
    → (K → K → Bool) → (K → HashWrites) → Core K V S D T A → Type 0
CoreHasCauses d b h eq writes c = HasCauses (setup_of d b h eq writes (state_of c)) (state_of c)

-- a thread asleep and another one have calls on the shard that it waits at
abbrev pub NobodyWaitsAlone : {K V S H D T A : Type 0} → deed.Ghosts D K V T → builder.Ghosts S H → hasher.Ghosts H
    → (K → K → Bool) → (K → HashWrites) → State K V S D T A → Type 0
NobodyWaitsAlone d b h eq writes w = SleepersHaveCompany (setup_of d b h eq writes w) w
