use Rattle.std.proofs.Common.{◌∙◌, sym, ap}
use Rattle.parking_lot_core.specs.Waits.{onto, under}
use Rattle.parking_lot_core.proofs.Waiters.{nobody, poured_under}
use Rattle.parking_lot_core.proofs.chain.Chain.pour_under.Goals as goal

pub loop-first-preserved : goal.loop-first-preserved
loop-first-preserved g c =
    poured_under c.args.key c.loop-first.self c.loop-first.to c.in-Some.first c.name.new.self
    c.move_first.new.self c.move_first.new.to (sym c.head.ensures ∙ c.in-Some.is) c.name.ensures
    c.move_first.ensures.left c.move_first.ensures.to
    ∙ c.loop-first.invariant

pub returns-clause-left : goal.returns-clause-left
returns-clause-left g c = nobody c.loop-first.self (sym c.head.ensures ∙ c.in_default.is)

pub returns-clause-to : goal.returns-clause-to
returns-clause-to g c = ap (λ xs. onto (under c.args.key xs) c.loop-first.to)
    (sym (nobody c.loop-first.self (sym c.head.ensures ∙ c.in_default.is))) ∙ c.loop-first.invariant
