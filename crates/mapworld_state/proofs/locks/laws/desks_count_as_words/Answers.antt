use Rattle.mapworld_state.proofs.LocksFacts.Wording.{counts_as_word}
use Rattle.mapworld_state.proofs.locks.laws.desks_count_as_words.Goals as goal

pub returns : goal.returns
returns c sh fit i desk at = counts_as_word c.modes_are_weighed.ensures sh fit i desk at
