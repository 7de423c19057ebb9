use Rattle.std.proofs.Common.{◌∙◌, ap, ◌∷◌}
use Rattle.parking_lot_core.specs.Waits.{items}
use Rattle.parking_lot_core.proofs.chain.Chain.one.Goals as goal

pub returns : goal.returns
returns g c = c.of.ensures ∙ ap (λ n. n.waiting ∷ items n.next) c.in_ok-node.ensures.ok
