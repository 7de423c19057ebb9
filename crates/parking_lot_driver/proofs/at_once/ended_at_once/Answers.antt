use Rattle.std.proofs.Common.{◌∷◌, [], sym, subst, refl}
use Rattle.parking_lot_protocol.specs.Timed.Courses.{EndedAt}
use Rattle.parking_lot_protocol.specs.Acts.{Gives}
use Rattle.parking_lot_protocol.specs.declared.act.ActResult.TheVariants.{Exchanged}
use Rattle.parking_lot_protocol.specs.declared.act.CoreAnswer.TheVariants.{Released}
use Rattle.parking_lot_driver.proofs.at_once.ended_at_once.Goals as goal

-- the exchange is the first act, and the last
pub returns : goal.returns
unfolding EndedAt
returns g c = (
  Released,
  (
    Exchanged ∷ [],
    ((c.args._from, subst (λ act. Gives act c.args._from Exchanged) (sym c.requires.first) refl), tt),
    c.requires.last,
  ),
)
