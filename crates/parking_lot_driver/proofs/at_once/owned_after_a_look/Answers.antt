use Rattle.std.proofs.Common.{◌∷◌, [], sym, subst, refl}
use Rattle.parking_lot_protocol.specs.Timed.Courses.{EndedAt}
use Rattle.parking_lot_protocol.specs.Acts.{Gives}
use Rattle.parking_lot_protocol.specs.declared.act.ActResult.TheVariants.{Word, Exchanged}
use Rattle.parking_lot_driver.proofs.at_once.owned_after_a_look.Goals as goal

-- the core was told of the word, that the exchange was won, and of the word that this left
pub returns : goal.returns
unfolding EndedAt
returns g c =
    let word = c.args._word in
    let to = c.args._to in (
      Word to ∷ Exchanged ∷ Word word ∷ [],
      (
        (to, subst (λ act. Gives act to (Word to)) (sym c.requires.look) refl),
        (
          (word, subst (λ act. Gives act word Exchanged) (sym c.requires.then) refl),
          ((word, subst (λ act. Gives act word (Word word)) (sym c.requires.first) refl), tt),
        ),
      ),
      c.requires.last,
    )
