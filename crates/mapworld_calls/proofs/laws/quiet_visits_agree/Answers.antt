use Rattle.mapworld_calls.proofs.Growing.{quiet-visit_agrees}
use Rattle.mapworld_calls.proofs.laws.quiet_visits_agree.Goals as goal

pub returns : goal.returns
returns g c = λ w laws bs i b c f k s. quiet-visit_agrees w laws bs i b c f k s
