use denote.Param.Always.{always_mut}
use Rattle.parking_lot_core_model.specs.Machine.{machine}
use Rattle.parking_lot_core_model.proofs.Sifting.{Sifted}
use Rattle.parking_lot_core_model.proofs.lot.Lot.sift.Given as goal

-- those so far were shown
abbrev pub invariant-loop-nth : goal.invariant-loop-nth
invariant-loop-nth g l = always_mut g.F.FnMut l.filter × Sifted (goal.F-step g) l.fn.filter (machine l.initial.self)
    l.key (machine l.self) l.unparked l.nth l.filter
