use Rattle.mapworld_state.proofs.InvariantFacts.CausesFacts.Keeping.{causes-new}
use Rattle.mapworld_state.proofs.invariant.causes.laws.new_worlds_have_causes.Goals as goal

pub returns : goal.returns
returns g c = λ x w new. causes-new x w new.rests new.out new.replies
