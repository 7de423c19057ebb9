use Rattle.std.proofs.Common.{◌≡◌, ◌++◌, map}
use Rattle.parking_lot_core_model.specs.Chains.{entry_of, walk_from, left_of}
use Rattle.parking_lot_core_model.proofs.spread.gather_chain.Given as goal

-- what is written down and what is still to be met are the whole chain
abbrev pub invariant-loop-spot : goal.invariant-loop-spot
invariant-loop-spot g l = l.order.items ++ map entry_of (left_of l.spot-iterator)
    ≡ l.initial.order.items ++ map entry_of (walk_from l.nodes l.fn.first)
