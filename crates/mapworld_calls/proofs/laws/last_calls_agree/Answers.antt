use Rattle.mapworld_calls.proofs.Growing.{last-call_agrees}
use Rattle.mapworld_calls.proofs.laws.last_calls_agree.Goals as goal

pub returns : goal.returns
returns g c = λ w laws bs i b c k a s. last-call_agrees w laws bs i b c k a s
