use Rattle.mapworld_calls.proofs.Settled.{settled-contents}
use Rattle.mapworld_calls.proofs.laws.settled_is_now.Goals as goal

pub returns : goal.returns
returns g c = λ f keeps bs i b. settled-contents f keeps bs i b
