use Rattle.mapworld_calls.proofs.Growing.{quiet-call_agrees}
use Rattle.mapworld_calls.proofs.laws.quiet_calls_agree.Goals as goal

pub returns : goal.returns
returns g c = λ w laws bs i b c k a s. quiet-call_agrees w laws bs i b c k a s
