use Rattle.std.proofs.Common.{inl, ◌+◌, ◌<◌, ◌^◌, sym, subst, arith, length}
use Rattle.parking_lot_core_model.specs.declared.chains.Trail.{Trail}
use Rattle.parking_lot_core_model.specs.Chains.{left_of}
use Rattle.parking_lot_core_model.proofs.chains.count_under.Goals as goal

pub count-requires-clause-fits : goal.count-requires-clause-fits
count-requires-clause-fits c = inl (subst (λ (w : Trail). 0
    + length (left_of w) < 2 ^ 64) (sym c.filter.ensures.source) (omega (arith, c.walk.ensures.few)))
