use Rattle.std.proofs.Common.{◌≡◌, ◌<◌, sym, length, arith, None}
use Rattle.parking_lot_core_model.proofs.Slots.{any_there, none_there}
use Rattle.parking_lot_core_model.proofs.buckets.is_any_there.Goals as goal

pub returns-then-is_some : goal.returns-then-is_some
returns-then-is_some c = sym (any_there c.args.sections.now c.loop-section.section-index None (omega arith)
    (sym c.if-is_some.ensures))

pub loop-section-preserved : goal.loop-section-preserved
loop-section-preserved c = none_there c.args.sections.now c.loop-section.section-index None (omega arith)
    c.loop-section.invariant (sym c.if-is_some.ensures)
