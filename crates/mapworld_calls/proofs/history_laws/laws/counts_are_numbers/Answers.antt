use Rattle.mapworld_calls.proofs.HistoryLawsFacts.Counts.{counts-numbers}
use Rattle.mapworld_calls.proofs.history_laws.laws.counts_are_numbers.Goals as goal

pub returns : goal.returns
returns g c = counts-numbers
