-- What every step of a world keeps of causes, and what follows of words.
use Rattle.std.specs.Prelude.{◌≡◌, ℕ, [], length, Some, None, slice_get}
use Rattle.mapworld_calls.specs.Setup.{Setup, Laws}
use Rattle.mapworld_state.specs.Locks.Fits.{LocksFit}
use Rattle.mapworld_state.specs.Locks.Stands.{stand_in}
use Rattle.mapworld_state.specs.declared.place.Phase.TheVariants as phase
use Rattle.mapworld_state.specs.declared.step.Step.{Step}
use Rattle.mapworld_state.specs.Places.{Place}
use Rattle.mapworld_state.specs.Sound.{Sound}
use Rattle.mapworld_state.specs.State.{State}
use Rattle.mapworld_state.specs.Steps.{IsStep}
use Rattle.mapworld_state.specs.Invariant.Causes.Causes.{HasCauses, SleepersHaveCompany, WordsHaveCalls}

-- the locks fit, and have a place for each thread of the world
pub record HasLocks {K V S D T A : Type 0} (w : State K V S D T A) : Type 0 where
  pub fit : LocksFit w.locks
  pub threads : length w.places ≡ length w.locks.rows.calls

-- a step of any kind leads from a sound world with causes to one with causes
abbrev pub StepsKeepCauses : (K V S D T A : Type 0) → Type 0
StepsKeepCauses K V S D T A = (x : Setup K V D T) → Laws x → (w : State K V S D T A) (s : Step) (w' : State K V S D T A)
    → Sound x w → HasLocks w → HasCauses x w → IsStep x w s w' → HasCauses x w'

-- all threads rest without holds, nobody is in a call at a lock, and nothing is answered
pub record IsUntouched {K V S D T A : Type 0} (w : State K V S D T A) : Type 0 where
  pub rests : (t : ℕ) (p : Place K V D T A) → slice_get w.places t ≡ Some p → (p.phase ≡ phase.Rest) × (p.holds ≡ [])
  pub out : (t : ℕ) → stand_in w.locks t ≡ None
  pub replies : w.replies ≡ []

abbrev pub NewWorldsHaveCauses : (K V S D T A : Type 0) → Type 0
NewWorldsHaveCauses K V S D T A = (x : Setup K V D T) (w : State K V S D T A) → IsUntouched w → HasCauses x w

-- where the word of a shard's lock isn't 0, a call is on the shard
abbrev pub TakenShardsHaveCalls : (K V S D T A : Type 0) → Type 0
TakenShardsHaveCalls K V S D T A = (x : Setup K V D T) (w : State K V S D T A) → Sound x w → HasLocks w → HasCauses x w
    → WordsHaveCalls x w

-- who sleeps waits for somebody
abbrev pub NobodySleepsAlone : (K V S D T A : Type 0) → Type 0
NobodySleepsAlone K V S D T A = (x : Setup K V D T) (w : State K V S D T A) → Sound x w → HasLocks w → HasCauses x w
    → SleepersHaveCompany x w
