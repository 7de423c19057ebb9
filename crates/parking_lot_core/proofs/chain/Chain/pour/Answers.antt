use Rattle.std.proofs.Common.{◌∙◌, sym, ap}
use Rattle.parking_lot_core.specs.Waits.{onto}
use Rattle.parking_lot_core.proofs.Waiters.{nobody}
use Rattle.parking_lot_core.proofs.chain.Chain.pour.Goals as goal

pub returns-clause-left : goal.returns-clause-left
returns-clause-left g c = nobody c.loop-self.self (sym c.head.ensures ∙ c.in_default.is)

pub returns-clause-to : goal.returns-clause-to
returns-clause-to g c = ap (λ xs. onto xs c.loop-self.to)
    (sym (nobody c.loop-self.self (sym c.head.ensures ∙ c.in_default.is))) ∙ c.loop-self.invariant
