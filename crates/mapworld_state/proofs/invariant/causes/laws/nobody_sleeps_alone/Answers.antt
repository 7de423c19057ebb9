use Rattle.mapworld_state.proofs.InvariantFacts.CausesFacts.Meeting.{sleepers-have_company}
use Rattle.mapworld_state.proofs.invariant.causes.laws.nobody_sleeps_alone.Goals as goal

pub returns : goal.returns
returns g c = λ x w sound locks causes. sleepers-have_company x w sound locks.fit locks.threads causes
