use Rattle.mapworld.proofs.Awake.{never_sleep}
use Rattle.mapworld.proofs.laws.tries_never_sleep.Goals as goal

pub returns : goal.returns
returns g c w t q r asked is =
    never_sleep g.D.Deed g.S.BuildHasher g.S.Hasher.Hasher g.K.PartialEq.eq g.K.Hash.hash_input g.met.K.Eq.laws
    g.met.K.Hash.respects_eq c.each_step_is_a_case.ensures c.owners_agree.ensures c.steps_touch_one_lock.ensures
    c.queues_are_waiters.ensures w t q r asked is
