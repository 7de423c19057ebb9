use Rattle.std.proofs.Common.{◌∷◌, [], sym, subst, refl}
use Rattle.parking_lot_protocol.specs.Timed.Courses.{EndedAt}
use Rattle.parking_lot_protocol.specs.Acts.{Gives}
use Rattle.parking_lot_protocol.specs.declared.act.ActResult.TheVariants.{Before}
use Rattle.parking_lot_driver.proofs.at_once.ended_by_sum.Goals as goal

-- the addition is the first act, and the last
pub returns : goal.returns
unfolding EndedAt
returns g c =
    let word = c.args._word in (
      Before word ∷ [],
      ((word, subst (λ act. Gives act word (Before word)) (sym c.requires.first) refl), tt),
      c.requires.last,
    )
