use Rattle.std.proofs.Common.{◌∙◌, sym, ap, ◌++◌}
use Rattle.parking_lot_core.specs.Waits.{onto, fits, without, found}
use Rattle.parking_lot_core.proofs.Waiters.{nobody}
use Rattle.parking_lot_core.proofs.chain.Chain.take_first.Goals as goal

pub returns-clause-left : goal.returns-clause-left
returns-clause-left g c =
    let none = nobody c.loop-first.self (sym c.head.ensures ∙ c.in_default.is) in
    c.pour-2.ensures.to ∙ (ap (onto c.loop-first.passed) (none ∙ sym (ap (without (fits c.args.wanted)) none))
    ∙ c.loop-first.invariant.0)

pub returns-clause-to : goal.returns-clause-to
returns-clause-to g c =
    let none = nobody c.loop-first.self (sym c.head.ensures ∙ c.in_default.is) in
    ap (λ xs. found (fits c.args.wanted) xs ++ c.loop-first.to) (sym none) ∙ c.loop-first.invariant.1
