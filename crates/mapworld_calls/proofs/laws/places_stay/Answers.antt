use Rattle.mapworld_calls.proofs.Placing.{well-placed_grown}
use Rattle.mapworld_calls.proofs.laws.places_stay.Goals as goal

pub returns : goal.returns
returns g c = λ w laws steps started replies bs i b c g on end alone. well-placed_grown w laws steps started replies bs
    i b c g on end alone
