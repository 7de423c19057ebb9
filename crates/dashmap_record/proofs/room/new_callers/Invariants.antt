use Rattle.std.proofs.Common.{◌≡◌, length}
use Rattle.dashmap_record.specs.Recorded.{AreNew}
use Rattle.dashmap_record.proofs.room.new_callers.Given as goal

abbrev pub invariant-loop-number : goal.invariant-loop-number
invariant-loop-number g l = (length l.callers.items ≡ l.number) × AreNew 0 l.callers.items
