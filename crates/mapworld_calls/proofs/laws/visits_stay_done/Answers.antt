use Rattle.mapworld_calls.proofs.Visiting.{visit-stays_done}
use Rattle.mapworld_calls.proofs.laws.visits_stay_done.Goals as goal

pub returns : goal.returns
returns g c = λ w laws bs i b c f k s there fresh goes_on h. visit-stays_done w laws bs i b c f k s fresh there goes_on
    h
