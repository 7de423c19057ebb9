use Rattle.mapworld_state.proofs.LocksFacts.Lawful.{lawful-begins, lawful-ends, lawful-expires, lawful-moves}
use Rattle.mapworld_state.proofs.locks.laws.lock_steps_are_lawful.Goals as goal

pub returns : goal.returns
returns c = record { begins = lawful-begins; moves = lawful-moves; expires = lawful-expires; ends = lawful-ends }
