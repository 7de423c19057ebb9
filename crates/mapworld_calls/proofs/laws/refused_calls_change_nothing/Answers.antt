use Rattle.mapworld_calls.proofs.Tables.{refused-leaves}
use Rattle.mapworld_calls.proofs.laws.refused_calls_change_nothing.Goals as goal

pub returns : goal.returns
returns g c = λ deeds. refused-leaves deeds
