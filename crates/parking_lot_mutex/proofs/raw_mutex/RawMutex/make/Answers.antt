use Rattle.std.proofs.Common.{◌∙◌, ap, sym, subst}
use Rattle.lock_word.specs.Owning.{then_owned}
use Rattle.parking_lot_mutex.specs.Owning.{in_hand, KeepsHand}
use Rattle.parking_lot_mutex.proofs.Owned.{keeps_hand, in_section}
use Rattle.parking_lot_mutex.proofs.raw_mutex.RawMutex.make.Goals as goal

-- the exchange was won, and the right went with bit 0
pub returns-then-word-from-clause-has : goal.returns-then-word-from-clause-has
returns-then-word-from-clause-has g c =
    let p = c.args.run.now.1.phase in
    let goes = subst (λ act. KeepsHand act p) (sym c.requires.act ∙ c.in-Exchange.is) (keeps_hand p) in
    c.exchange-word.ensures.1 c.if-word-from.true
    ∙ ap (λ had. then_owned had c.in-Exchange.from c.in-Exchange.to) c.requires.had
    ∙ sym goes ∙ sym (ap (λ core. in_hand core.phase) c.learn-then-word-from.ensures.core)

-- nothing is in hand in a section, nor after an act there
pub returns-in-Section-clause-has : goal.returns-in-Section-clause-has
returns-in-Section-clause-has g c =
    let old = c.args.run.now.1 in
    let none = subst (λ act. KeepsHand act old.phase) (sym c.requires.act ∙ c.in-Section.is) (keeps_hand old.phase) in
    in_section _ old _ c.requires.had none c.tell.ensures.core
