use Rattle.mapworld.proofs.ProgressFacts.Ending.{steps_fall}
use Rattle.mapworld.proofs.progress.laws.steps_fall.Goals as goal

pub returns : goal.returns
returns g c = λ x laws w s w' whole mine step. steps_fall x laws w s w' whole mine step
