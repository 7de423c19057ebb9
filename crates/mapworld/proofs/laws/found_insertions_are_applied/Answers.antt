use Rattle.mapworld.proofs.Growths.{applied}
use Rattle.mapworld.proofs.laws.found_insertions_are_applied.Goals as goal

pub returns : goal.returns
returns g c = λ x w s w' f call k v pair is asked found. applied x w s w' f call k v pair is asked found
