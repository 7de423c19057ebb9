use Rattle.mapworld_calls.proofs.Growing.{new-agrees}
use Rattle.mapworld_calls.proofs.laws.new_blocks_agree.Goals as goal

pub returns : goal.returns
returns g c = λ w. new-agrees w
