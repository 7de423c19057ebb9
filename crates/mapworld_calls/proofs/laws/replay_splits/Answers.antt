use Rattle.mapworld_calls.proofs.Frames.{contents-split}
use Rattle.mapworld_calls.proofs.laws.replay_splits.Goals as goal

pub returns : goal.returns
returns g c = λ f keeps bs q. contents-split f keeps bs q
