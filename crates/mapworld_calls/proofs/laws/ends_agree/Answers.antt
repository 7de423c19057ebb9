use Rattle.mapworld_calls.proofs.Growing.{end-agrees}
use Rattle.mapworld_calls.proofs.laws.ends_agree.Goals as goal

pub returns : goal.returns
returns g c = λ w laws bs i b c s. end-agrees w laws bs i b c s
