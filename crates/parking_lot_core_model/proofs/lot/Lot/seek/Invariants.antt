use denote.Param.Always.{always_mut}
use Rattle.parking_lot_core_model.specs.Machine.{machine}
use Rattle.parking_lot_core_model.proofs.Filters.{Sought}
use Rattle.parking_lot_core_model.proofs.lot.Lot.seek.Given as goal

-- those so far were passed
abbrev pub invariant-loop-at : goal.invariant-loop-at
invariant-loop-at g l = always_mut g.F.FnMut l.filter
    × Sought (goal.F-step g) l.fn.filter ((machine l.self).queues l.key) l.passed l.filter l.at
