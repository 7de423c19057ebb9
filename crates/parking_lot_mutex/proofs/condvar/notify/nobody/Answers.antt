use Rattle.std.proofs.Common.{◌∷◌, [], refl}
use Rattle.parking_lot_protocol.specs.Timed.Courses.{EndedAt}
use Rattle.parking_lot_protocol_waits.specs.declared.notify_act.NotifySeen.TheVariants.{Word}
use Rattle.parking_lot_mutex.proofs.condvar.notify.nobody.Goals as goal

-- the look is the first act, and the last
pub returns : goal.returns
unfolding EndedAt
returns g = (Word 0 ∷ [], ((0, refl), tt), refl)
