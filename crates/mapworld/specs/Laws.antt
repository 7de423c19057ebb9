-- Laws of a world's steps.
use Rattle.std.specs.Prelude.{◌≡◌, Some, slice_get}
use Rattle.mapworld_calls.specs.declared.ask.Keyed.{Keyed}
use Rattle.mapworld_calls.specs.Pairs.{pair_of}
use Rattle.mapworld_calls.specs.Setup.{Setup}
use Rattle.mapworld_state.specs.declared.place.Phase.TheVariants as phase
use Rattle.mapworld_state.specs.declared.place.Request.TheVariants as request
use Rattle.mapworld_state.specs.declared.step.Step.{Step}
use Rattle.mapworld_state.specs.Places.{Place}
use Rattle.mapworld_state.specs.Sound.{Inserts}
use Rattle.mapworld_state.specs.State.{State}
use Rattle.mapworld_state.specs.Steps.{Finds}

-- an insertion whose look finds the key's pair goes on to its deed, and to nothing before it
abbrev pub FoundInsertsAreApplied : (K V S D T A : Type 0) → Type 0
FoundInsertsAreApplied K V S D T A =
    (x : Setup K V D T) (w : State K V S D T A) (s : Step) (w' : State K V S D T A) (f : Finds x w s w')
    (call : Keyed K V D) (k : K) (v : V) (pair : K × V)
    → Inserts call k v → f.request ≡ request.Keyed call → pair_of x.eq f.table.items k ≡ Some pair
    → (p : Place K V D T A) × (slice_get w'.places s.thread ≡ Some p) × (p.phase ≡ phase.Apply call)
