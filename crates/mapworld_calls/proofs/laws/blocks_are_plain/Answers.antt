use Rattle.mapworld_calls.proofs.Replays.{are-plain}
use Rattle.mapworld_calls.proofs.laws.blocks_are_plain.Goals as goal

pub returns : goal.returns
returns g c = are-plain
