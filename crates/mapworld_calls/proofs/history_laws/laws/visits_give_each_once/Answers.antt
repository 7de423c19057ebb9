use Rattle.mapworld_calls.proofs.HistoryLawsFacts.Walks.{visits-once}
use Rattle.mapworld_calls.proofs.history_laws.laws.visits_give_each_once.Goals as goal

pub returns : goal.returns
returns g c = visits-once
