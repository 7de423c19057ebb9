use Rattle.mapworld_state.proofs.InvariantFacts.CausesFacts.Meeting.{words-have_calls}
use Rattle.mapworld_state.proofs.invariant.causes.laws.words_have_calls.Goals as goal

pub returns : goal.returns
returns g c = λ x w sound locks causes. words-have_calls x w sound locks.fit locks.threads causes
