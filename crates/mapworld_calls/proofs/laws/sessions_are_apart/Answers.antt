use Rattle.mapworld_calls.proofs.Programs.{holds_one_guard, sessions_apart}
use Rattle.mapworld_calls.proofs.laws.sessions_are_apart.Goals as goal

pub returns : goal.returns
returns g c = λ program h. sessions_apart program (holds_one_guard program h)
