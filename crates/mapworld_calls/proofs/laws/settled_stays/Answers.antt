use Rattle.mapworld_calls.proofs.Settled.{stays-settled}
use Rattle.mapworld_calls.proofs.laws.settled_stays.Goals as goal

pub returns : goal.returns
returns g c = stays-settled
