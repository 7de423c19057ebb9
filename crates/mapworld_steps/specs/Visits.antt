-- Steps of walks, as functions of their own make them.
use Rattle.std.specs.Prelude.{◌⊎◌}
use Rattle.mapworld_calls.specs.Setup.{Setup}
use Rattle.mapworld_state.specs.declared.place.Phase.TheVariants as phase
use Rattle.mapworld_state.specs.declared.step.Step.{Step}
use Rattle.mapworld_state.specs.State.{State}
use Rattle.mapworld_state.specs.Steps.{GivesBack, LooksAround, IsRefusedVisit}

module _ {K V S D T A : Type 0} (x : Setup K V D T) (w : State K V S D T A) (s : Step) (w' : State K V S D T A) where
  -- a walk parts with the last shard, or gives its shard back
  abbrev pub PartsOnly : Type 0
  PartsOnly = GivesBack x w s w' phase.Part phase.Visit

  abbrev pub Gives : Type 0
  Gives = GivesBack x w s w' phase.Give phase.Onward

  -- a look, or its refusal
  abbrev pub LooksOrIsRefused : Type 0
  LooksOrIsRefused = LooksAround x w s w' ⊎ IsRefusedVisit x w s w'
