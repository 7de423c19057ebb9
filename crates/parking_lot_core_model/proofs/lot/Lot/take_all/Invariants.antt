use Rattle.std.proofs.Common.{◌≡◌, take, drop}
use Rattle.parking_lot_core_model.specs.Machine.{machine}
use Rattle.parking_lot_core_model.specs.Operations.{all_taken}
use Rattle.parking_lot_core_model.proofs.lot.Lot.take_all.Given as goal

-- so many were taken
abbrev pub invariant-loop-nth : goal.invariant-loop-nth
invariant-loop-nth g l =
    let m = machine l.initial.self in
    machine l.self ≡ all_taken m l.key (take l.nth (m.queues l.key)) (drop l.nth (m.queues l.key))
