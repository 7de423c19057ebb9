use Rattle.mapworld_calls.proofs.HistoryLawsFacts.Sessions.{read-back-writes}
use Rattle.mapworld_calls.proofs.history_laws.laws.writes_are_read_back.Goals as goal

pub returns : goal.returns
returns g c = read-back-writes
