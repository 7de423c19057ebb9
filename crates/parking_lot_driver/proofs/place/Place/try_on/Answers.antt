use Rattle.std.proofs.Common.{◌∙◌, ◌∷◌, [], ap, sym, subst, refl}
use Rattle.parking_lot_protocol.specs.Acts.{Gives}
use Rattle.parking_lot_protocol.specs.declared.act.ActResult.TheVariants.{Start, Word}
use Rattle.parking_lot_driver.specs.Runs.{is_on_the_word}
use Rattle.parking_lot_driver.proofs.place.Place.try_on.Goals as goal

-- the core was told of the word
pub go_on_trying-requires-clause-told : goal.go_on_trying-requires-clause-told
go_on_trying-requires-clause-told g c =
    let told = g.K.Core.DecisionCore.told in
    let word = c.args.word in (
      Word word ∷ [],
      ((word, subst (λ act. Gives act word (Word word)) (sym c.requires.first) refl), tt),
      c.next-2.ensures.core ∙ ap (λ core. told core (Word word))
          (c.next.ensures.core ∙ ap (λ core. told core Start) c.begin-core.ensures),
      refl,
    )

-- it goes on as it has begun
pub go_on_trying-requires-clause-tries : goal.go_on_trying-requires-clause-tries
go_on_trying-requires-clause-tries g c =
    let told = g.K.Core.DecisionCore.told in
    let laws = g.met.K.TryCall in
    let begun = c.next.ensures.core ∙ ap (λ core. told core Start) c.begin-core.ensures in
    let looked = c.next-2.ensures.core ∙ ap (λ core. told core (Word c.args.word)) begun in
    subst g.K.TryCall.trying (sym looked)
    (laws.goes_on _ c.args.word laws.begins (ap is_on_the_word c.requires.first))
