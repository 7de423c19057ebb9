use Rattle.mapworld.proofs.ProgressFacts.Moving.{somebody_moves}
use Rattle.mapworld.proofs.progress.laws.somebody_moves.Goals as goal

pub returns : goal.returns
returns g c = λ x w whole some. somebody_moves c.somebody_can_move.ensures x w whole some
