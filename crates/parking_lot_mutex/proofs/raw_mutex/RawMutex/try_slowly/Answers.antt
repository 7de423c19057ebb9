use Rattle.std.proofs.Common.{◌∙◌, ◌∷◌, [], ap, refl}
use Rattle.parking_lot_driver.specs.Ends.{mutex_told}
use Rattle.parking_lot_protocol.specs.declared.act.ActResult.TheVariants.{Start, Word}
use Rattle.parking_lot_mutex.proofs.raw_mutex.RawMutex.try_slowly.Goals as goal

-- the core was told of the word, and of the one to which the exchange was lost
pub go_on_trying-requires-clause-told : goal.go_on_trying-requires-clause-told
go_on_trying-requires-clause-told g c =
    let word = c.args.word in
    let begun = c.next.ensures.core ∙ ap (λ core. mutex_told core Start) c.begin-core.ensures in
    let looked = c.next-2.ensures.core ∙ ap (λ core. mutex_told core (Word 0)) begun in (
      Word word ∷ Word 0 ∷ [],
      ((word, (refl, c.requires)), ((0, refl), tt)),
      c.next-3.ensures.core ∙ ap (λ core. mutex_told core (Word word)) looked,
      refl,
    )
