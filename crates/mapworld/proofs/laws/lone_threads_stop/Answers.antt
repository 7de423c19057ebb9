use Rattle.mapworld.proofs.Reached.{lone}
use Rattle.mapworld.proofs.laws.lone_threads_stop.Goals as goal

pub returns : goal.returns
returns g c w t ss w' r alone leads =
    lone g.D.Deed g.S.BuildHasher g.S.Hasher.Hasher g.K.PartialEq.eq g.K.Hash.hash_input g.met.K.Eq.laws
    g.met.K.Hash.respects_eq c.each_step_is_a_case.ensures c.owners_agree.ensures c.steps_are_few.ensures w t ss
    w' r alone leads
