use Rattle.std.proofs.Common.{◌≡◌, false}
use Rattle.parking_lot_machine_waits.specs.Joint.{any_keeps, buckets}
use Rattle.parking_lot_machine_waits.proofs.machines.Machines.is_kept.Given as goal

-- none so far
abbrev pub invariant-loop-variable : goal.invariant-loop-variable
invariant-loop-variable g l = any_keeps (buckets l.self) l.self.vars l.bucket l.variable ≡ false
