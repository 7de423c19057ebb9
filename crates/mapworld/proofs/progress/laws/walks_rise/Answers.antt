use Rattle.mapworld.proofs.ProgressFacts.Moving.{reaches-next, reaches-within}
use Rattle.mapworld.proofs.progress.laws.walks_rise.Goals as goal

pub returns : goal.returns
returns g c = λ x w whole t p at f before.
    (reaches-within x w whole t p at f before, λ i h there. reaches-next x w whole t p at f before i h there)
