use Rattle.mapworld.proofs.Reached.{atomic}
use Rattle.mapworld.proofs.laws.reachable_steps_are_atomic.Goals as goal

pub returns : goal.returns
returns g c w s w' r step =
    atomic g.D.Deed g.S.BuildHasher g.S.Hasher.Hasher g.K.PartialEq.eq g.K.Hash.hash_input g.met.K.Eq.laws
    g.met.K.Hash.respects_eq c.each_step_is_a_case.ensures c.owners_agree.ensures c.steps_touch_one_lock.ensures
    w s w' r step
