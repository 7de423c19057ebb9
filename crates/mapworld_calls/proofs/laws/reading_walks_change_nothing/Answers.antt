use Rattle.mapworld_calls.proofs.Tables.{reading-leaves}
use Rattle.mapworld_calls.proofs.laws.reading_walks_change_nothing.Goals as goal

pub returns : goal.returns
returns g c = reading-leaves
