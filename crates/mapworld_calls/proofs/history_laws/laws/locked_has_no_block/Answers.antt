use Rattle.mapworld_calls.proofs.HistoryLawsFacts.Refusals.{locked-has_no_block}
use Rattle.mapworld_calls.proofs.history_laws.laws.locked_has_no_block.Goals as goal

pub returns : goal.returns
returns g c = locked-has_no_block
