use Rattle.mapworld.proofs.Reached.{growths}
use Rattle.mapworld.proofs.laws.growths_are_for_new_keys.Goals as goal

pub returns : goal.returns
returns g c w s w' r =
    growths g.D.Deed g.S.BuildHasher g.S.Hasher.Hasher g.K.PartialEq.eq g.K.Hash.hash_input g.met.K.Eq.laws
    g.met.K.Hash.respects_eq c.each_step_is_a_case.ensures c.owners_agree.ensures w s w' r
