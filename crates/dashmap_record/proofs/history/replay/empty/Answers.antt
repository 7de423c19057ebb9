use Rattle.dashmap_record.proofs.HistoryFacts.Replaying.{nothing_there}
use Rattle.dashmap_record.proofs.history.replay.empty.Goals as goal

pub returns-in-Ok : goal.returns-in-Ok
returns-in-Ok g c q = nothing_there g.S.BuildHasher g.S.Hasher.Hasher g.K.Hash.hash_input g.K.PartialEq.eq 2 c.in-Ok.map
    c.in-Ok.ensures.made.0 q
