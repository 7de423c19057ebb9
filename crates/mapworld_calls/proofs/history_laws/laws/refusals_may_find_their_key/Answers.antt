use Rattle.mapworld_calls.proofs.HistoryLawsFacts.Missed.{refusals-may_find}
use Rattle.mapworld_calls.proofs.history_laws.laws.refusals_may_find_their_key.Goals as goal

pub returns : goal.returns
returns g c = refusals-may_find
