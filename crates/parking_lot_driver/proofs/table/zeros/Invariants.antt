use Rattle.std.proofs.Common.{◌≡◌, length}
use Rattle.parking_lot_driver.proofs.table.zeros.Given as goal

abbrev pub invariant-loop-row : goal.invariant-loop-row
invariant-loop-row g l = length l.words.items ≡ l._row
