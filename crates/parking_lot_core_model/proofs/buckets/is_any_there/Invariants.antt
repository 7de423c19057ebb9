use Rattle.std.proofs.Common.{◌≡◌, false}
use Rattle.parking_lot_core_model.specs.Buckets.{slot, any_open}
use Rattle.parking_lot_core_model.proofs.buckets.is_any_there.Given as goal

-- none so far
abbrev pub invariant-loop-section : goal.invariant-loop-section
invariant-loop-section l = any_open (slot l.sections) l.section-index ≡ false
