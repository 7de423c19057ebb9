use Rattle.std.proofs.Common.{◌≡◌, take, drop}
use Rattle.parking_lot_core_model.specs.Machine.{machine, moved}
use Rattle.parking_lot_core_model.proofs.lot.Lot.move_all.Given as goal

-- so many moved
abbrev pub invariant-loop-nth : goal.invariant-loop-nth
invariant-loop-nth g l =
    let m = machine l.initial.self in
    machine l.self ≡ moved m l.from l.to (take l.nth (m.queues l.from)) (drop l.nth (m.queues l.from))
