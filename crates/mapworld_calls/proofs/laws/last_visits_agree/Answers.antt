use Rattle.mapworld_calls.proofs.Growing.{last-visit_agrees}
use Rattle.mapworld_calls.proofs.laws.last_visits_agree.Goals as goal

pub returns : goal.returns
returns g c = λ w laws bs i b c f k s. last-visit_agrees w laws bs i b c f k s
