use Rattle.std.proofs.Common.{◌∷◌, [], sym, subst, refl}
use Rattle.parking_lot_protocol.specs.Timed.Courses.{EndedAt}
use Rattle.parking_lot_protocol.specs.Acts.{Gives}
use Rattle.parking_lot_protocol.specs.declared.act.ActResult.TheVariants.{Exchanged}
use Rattle.parking_lot_protocol.specs.declared.act.CoreAnswer.TheVariants.{Released}
use Rattle.parking_lot_mutex.proofs.raw_mutex.RawMutex.gives_up_at_once.Goals as goal

-- the exchange is the first act, and the last
pub returns-in-Ok-clause-ended : goal.returns-in-Ok-clause-ended
unfolding EndedAt
returns-in-Ok-clause-ended g c = (
  Released,
  (
    Exchanged ∷ [],
    ((1, subst (λ act. Gives act 1 Exchanged) (sym c.requires.first) refl), tt),
    c.requires.last,
  ),
)
