use Rattle.mapworld_calls.proofs.HistoryLawsFacts.Rearranged.{other-shards_commute}
use Rattle.mapworld_calls.proofs.history_laws.laws.other_shards_commute.Goals as goal

pub returns : goal.returns
returns g c = other-shards_commute
