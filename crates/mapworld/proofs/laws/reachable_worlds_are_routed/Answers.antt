use Rattle.mapworld.proofs.Reached.{routed}
use Rattle.mapworld.proofs.laws.reachable_worlds_are_routed.Goals as goal

pub returns : goal.returns
returns g c w r =
    routed g.D.Deed g.S.BuildHasher g.S.Hasher.Hasher g.K.PartialEq.eq g.K.Hash.hash_input g.met.K.Eq.laws
    g.met.K.Hash.respects_eq c.each_step_is_a_case.ensures c.owners_agree.ensures w r
