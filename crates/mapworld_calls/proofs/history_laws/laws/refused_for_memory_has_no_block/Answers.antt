use Rattle.mapworld_calls.proofs.HistoryLawsFacts.Refusals.{refused-has_no_block}
use Rattle.mapworld_calls.proofs.history_laws.laws.refused_for_memory_has_no_block.Goals as goal

pub returns : goal.returns
returns g c = refused-has_no_block
