use Rattle.std.proofs.Common.{◌≡◌, ◌++◌, take}
use Rattle.parking_lot_core_model.specs.Chains.{entries}
use Rattle.parking_lot_core_model.proofs.spread.gather.Given as goal

-- so many chains are written down
abbrev pub invariant-loop-head : goal.invariant-loop-head
invariant-loop-head g l = l.order.items ≡ l.initial.order.items ++ entries l.nodes (take l.head-index l.heads)
