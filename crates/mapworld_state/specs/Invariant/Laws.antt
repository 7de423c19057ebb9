-- What every step of a world keeps, and what it adds.
use Rattle.mapworld_calls.specs.Placed.{OnlyAdds}
use Rattle.mapworld_calls.specs.Setup.{Setup, Laws}
use Rattle.mapworld_state.specs.declared.step.Step.{Step}
use Rattle.mapworld_state.specs.State.{State, threads_of}
use Rattle.mapworld_state.specs.Steps.{IsStep}
use Rattle.mapworld_state.specs.Running.{StaysFixed}
use Rattle.mapworld_state.specs.Sound.{Sound}

-- a step of any kind leads from a sound world to a sound one
abbrev pub StepsKeepSound : (K V S D T A : Type 0) → Type 0
StepsKeepSound K V S D T A = (x : Setup K V D T) → Laws x → (w : State K V S D T A) (s : Step) (w' : State K V S D T A)
    → Sound x w → IsStep x w s w' → Sound x w'

-- it takes no step, block or reply away, and changes nothing that the world was made with
abbrev pub StepsOnlyAdd : (K V S D T A : Type 0) → Type 0
StepsOnlyAdd K V S D T A = (x : Setup K V D T) (w : State K V S D T A) (s : Step) (w' : State K V S D T A) → Sound x w
    → IsStep x w s w'
    → OnlyAdds (threads_of w) (threads_of w') w.blocks w'.blocks w.replies w'.replies × StaysFixed w w'
