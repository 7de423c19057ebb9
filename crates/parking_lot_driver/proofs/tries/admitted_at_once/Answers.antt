use Rattle.std.proofs.Common.{◌∷◌, [], arith, sym, subst, refl}
use Rattle.parking_lot_driver.specs.Runs.{told_all}
use Rattle.parking_lot_driver.specs.Tries.{Admitted}
use Rattle.parking_lot_protocol.specs.Acts.{Gives}
use Rattle.parking_lot_protocol.specs.declared.act.ActResult.TheVariants.{Word, Exchanged}
use Rattle.parking_lot_driver.proofs.tries.admitted_at_once.Goals as goal

-- the core was told of the word, and that the exchange was won
pub returns : goal.returns
unfolding Admitted
returns g c =
    let word = c.args._word in
    let seen = Exchanged ∷ Word word ∷ [] in (
      told_all g.K.Core.DecisionCore.told g.K.Call.begun seen,
      (
        c.requires.first,
        (
          2,
          omega arith,
          (
            seen,
            (
              (word, subst (λ act. Gives act word Exchanged) (sym c.requires.then) refl),
              ((word, subst (λ act. Gives act word (Word word)) (sym c.requires.first) refl), tt),
            ),
            refl,
            refl,
          ),
        ),
      ),
      c.requires.last,
    )
