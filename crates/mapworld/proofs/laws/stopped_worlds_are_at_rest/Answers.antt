use Rattle.mapworld.proofs.Reached.{at_rest}
use Rattle.mapworld.proofs.laws.stopped_worlds_are_at_rest.Goals as goal

pub returns : goal.returns
returns g c w r stops =
    at_rest g.D.Deed g.S.BuildHasher g.S.Hasher.Hasher g.K.PartialEq.eq g.K.Hash.hash_input g.met.K.Eq.laws
    g.met.K.Hash.respects_eq c.each_step_is_a_case.ensures c.owners_agree.ensures c.somebody_can_move.ensures w r
    stops
