use Rattle.mapworld_calls.proofs.HistoryLawsFacts.Refusals.{no-guard_answered}
use Rattle.mapworld_calls.proofs.history_laws.laws.no_guard_is_answered.Goals as goal

pub returns : goal.returns
returns g c = no-guard_answered
