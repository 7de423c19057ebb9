-- Worlds that are led by schedules.
use Rattle.std.proofs.Common.{ℕ, Bool, List, Result, Ok, Err, IfOk}
use Rattle.std.specs.Hash.{HashWrites}
use Rattle.std.specs.declared.hash.BuildHasher as builder
use Rattle.std.specs.declared.hash.Hasher as hasher
use Rattle.mapworld_calls.specs.declared.ask.Ask.{Ask}
use Rattle.mapworld_calls.specs.declared.deed.Deed as deed
use Rattle.mapworld_state.specs.declared.step.Step.{Step}
use Rattle.mapworld_state.specs.Running.{Ran}
use Rattle.mapworld_state.specs.State.{State}
use Rattle.mapworld_state.specs.World.{setup_of}
use Rattle.mapworld.specs.Making.{IsNew}
use Rattle.mapworld_explorer.specs.Led.{IsLedBy}

-- a new world that was led on by a run that may be refused was led there, where it wasn't
pub led-on : {K V S H D T A E : Type 0} (d : deed.Ghosts D K V T) (b : builder.Ghosts S H) (h : hasher.Ghosts H)
    (eq : K → K → Bool) (writes : K → HashWrites) (shards : ℕ) (s : S) (pairs : List (K × V))
    (programs : List (List (Ask K V D))) (steps : List Step) (first : State K V S D T A)
    (r : Result (State K V S D T A) E) → IsNew eq shards s pairs programs first
    → IfOk r (Ran (setup_of d b h eq writes first) 0 first steps)
    → IfOk r (IsLedBy d b h eq writes shards s pairs programs steps)
led-on d b h eq writes shards s pairs programs steps first (Ok w) new ran = (first, new, ran)
led-on d b h eq writes shards s pairs programs steps first (Err e) new ran = tt

-- an outcome of a world that was led there is one of a world that was
pub of-led : {W O E : Type 0} (Led Ended : W → Type 0) (Told : W → O → Type 0) (w : W) (r : Result O E) → Led w
    → IfOk r (λ o. Ended w × Told w o) → IfOk r (λ o. (v : W) × Led v × Ended v × Told v o)
of-led Led Ended Told w (Ok o) led told = (w, led, told.0, told.1)
of-led Led Ended Told w (Err e) led told = tt
