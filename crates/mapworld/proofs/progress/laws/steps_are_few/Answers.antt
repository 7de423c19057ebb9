use Rattle.mapworld.proofs.ProgressFacts.Bounding.{steps_are_few}
use Rattle.mapworld.proofs.progress.laws.steps_are_few.Goals as goal

pub returns : goal.returns
returns g c = λ x w size fit. steps_are_few c.steps_are_few.ensures x w size fit
