use Rattle.mapworld.proofs.Absences.{were_absent}
use Rattle.mapworld.proofs.laws.refused_keys_were_absent.Goals as goal

pub returns : goal.returns
returns g c w i q a key r at short asked is =
    were_absent g.D.Deed g.S.BuildHasher g.S.Hasher.Hasher g.K.PartialEq.eq g.K.Hash.hash_input g.met.K.Eq.laws
    g.met.K.Hash.respects_eq c.each_step_is_a_case.ensures c.owners_agree.ensures c.steps_touch_one_lock.ensures
    w i q a key r at short asked is
