use Rattle.std.proofs.Common.{◌∷◌, [], sym, subst, refl}
use Rattle.parking_lot_protocol.specs.Timed.Courses.{EndedAt}
use Rattle.parking_lot_protocol.specs.Acts.{Gives}
use Rattle.parking_lot_protocol.specs.declared.act.ActResult.TheVariants.{Before, Word}
use Rattle.parking_lot_driver.proofs.at_once.owned_by_sum.Goals as goal

-- the core was told of the word before the addition, and of the one behind it
pub returns : goal.returns
unfolding EndedAt
returns g c =
    let word = c.args._word in
    let left = c.args._left in (
      Word left ∷ Before word ∷ [],
      (
        (left, subst (λ act. Gives act left (Word left)) (sym c.requires.look) refl),
        ((word, subst (λ act. Gives act word (Before word)) (sym c.requires.first) refl), tt),
      ),
      c.requires.last,
    )
