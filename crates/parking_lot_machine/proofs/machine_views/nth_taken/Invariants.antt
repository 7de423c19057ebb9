use Rattle.std.proofs.Common.{◌≡◌, slice_get, drop}
use Rattle.parking_lot_machine.specs.Rows.{taken_by}
use Rattle.parking_lot_machine.proofs.machine_views.nth_taken.Given as goal

-- of those from here on it is the one after so many
abbrev pub invariant-loop-wakeup : goal.invariant-loop-wakeup
invariant-loop-wakeup l = slice_get (taken_by (drop l.wakeup-index l.wakes) l.by) l.left ≡ slice_get
    (taken_by l.wakes l.by) l.nth
