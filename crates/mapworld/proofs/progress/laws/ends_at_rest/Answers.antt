use Rattle.mapworld.proofs.ProgressFacts.Resting.{ends_at_rest}
use Rattle.mapworld.proofs.progress.laws.ends_at_rest.Goals as goal

pub returns : goal.returns
returns g c = λ x w whole stops. ends_at_rest c.somebody_can_move.ensures x w whole stops
