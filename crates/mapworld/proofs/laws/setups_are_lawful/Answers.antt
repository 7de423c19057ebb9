use Rattle.mapworld_transitions.proofs.Keys.{setup-laws}
use Rattle.mapworld.proofs.laws.setups_are_lawful.Goals as goal

pub returns : goal.returns
returns g c w = setup-laws g.D.Deed g.S.BuildHasher g.S.Hasher.Hasher g.K.PartialEq.eq g.K.Hash.hash_input w
    g.met.K.Eq.laws g.met.K.Hash.respects_eq
