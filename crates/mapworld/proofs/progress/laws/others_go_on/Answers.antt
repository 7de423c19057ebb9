use Rattle.mapworld.proofs.ProgressFacts.Turning.{others_go_on}
use Rattle.mapworld.proofs.progress.laws.others_go_on.Goals as goal

pub returns : goal.returns
returns g c = λ x w whole t stops u. others_go_on x w whole t stops u
