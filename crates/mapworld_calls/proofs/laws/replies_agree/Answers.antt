use Rattle.mapworld_calls.proofs.Growing.{reply-agrees}
use Rattle.mapworld_calls.proofs.laws.replies_agree.Goals as goal

pub returns : goal.returns
returns g c = λ w. reply-agrees w
