use Rattle.mapworld_calls.proofs.Placing.{well-placed_pushed}
use Rattle.mapworld_calls.proofs.laws.places_stay_before.Goals as goal

pub returns : goal.returns
returns g c = well-placed_pushed
