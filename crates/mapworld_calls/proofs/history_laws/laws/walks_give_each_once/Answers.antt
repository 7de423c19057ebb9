use Rattle.mapworld_calls.proofs.HistoryLawsFacts.Walks.{walks-once}
use Rattle.mapworld_calls.proofs.history_laws.laws.walks_give_each_once.Goals as goal

pub returns : goal.returns
returns g c = walks-once
