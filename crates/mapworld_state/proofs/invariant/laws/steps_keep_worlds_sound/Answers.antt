use Rattle.mapworld_state.proofs.InvariantFacts.Sounds.{sound-step}
use Rattle.mapworld_state.proofs.invariant.laws.steps_keep_worlds_sound.Goals as goal

pub returns : goal.returns
returns g c = λ x laws w s w' sound step. sound-step x laws w s w' sound step
