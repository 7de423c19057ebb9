use Rattle.mapworld_state.proofs.InvariantFacts.CausesFacts.Keeping.{causes-step}
use Rattle.mapworld_state.proofs.invariant.causes.laws.steps_keep_causes.Goals as goal

pub returns : goal.returns
returns g c = λ x laws w s w' sound locks causes step. causes-step x laws w s w' sound locks.fit locks.threads causes
    step
