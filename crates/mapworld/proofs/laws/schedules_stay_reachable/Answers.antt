use Rattle.mapworld.proofs.Reached.{stay_reachable}
use Rattle.mapworld.proofs.laws.schedules_stay_reachable.Goals as goal

pub returns : goal.returns
returns g c w ss w' r leads =
    stay_reachable g.D.Deed g.S.BuildHasher g.S.Hasher.Hasher g.K.PartialEq.eq g.K.Hash.hash_input g.met.K.Eq.laws
    g.met.K.Hash.respects_eq c.each_step_is_a_case.ensures c.owners_agree.ensures w ss w' r leads
