use Rattle.mapworld_calls.proofs.Frames.{commute}
use Rattle.mapworld_calls.proofs.laws.blocks_commute.Goals as goal

pub returns : goal.returns
returns g c = commute
