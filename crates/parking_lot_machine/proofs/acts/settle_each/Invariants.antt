use Rattle.std.proofs.Common.{◌≡◌, ◌++◌, map, take, drop}
use Rattle.std.specs.Option.{option_map}
use Rattle.parking_lot_machine_calls.specs.CallActs.{settled}
use Rattle.parking_lot_machine.proofs.acts.settle_each.Given as goal

-- those so far are told
abbrev pub invariant-loop-call : goal.invariant-loop-call
invariant-loop-call l = l.calls ≡ map (option_map (settled l.by l.said)) (take l.call-index l.initial.calls) ++ drop
    l.call-index l.initial.calls
