use Rattle.mapworld_calls.proofs.HistoryLawsFacts.Sessions.{tell-their-own}
use Rattle.mapworld_calls.proofs.history_laws.laws.sessions_tell_their_own.Goals as goal

pub returns : goal.returns
returns g c = tell-their-own
