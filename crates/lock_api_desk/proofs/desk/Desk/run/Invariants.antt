use Rattle.std.proofs.Common.{◌≡◌, length}
use Rattle.lock_api_desk.specs.Calls.{Runs}
use Rattle.lock_api_desk.proofs.desk.Desk.run.Given as goal

abbrev pub invariant-loop-call : goal.invariant-loop-call
invariant-loop-call g l = (l.place ≡ length l.yielded) × Runs l.yielded l.initial.self l.self
