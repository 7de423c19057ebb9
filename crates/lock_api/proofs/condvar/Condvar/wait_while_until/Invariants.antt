use Rattle.std.proofs.Common.{◌≡◌}
use denote.Param.Always.{always_mut}
use Rattle.std.specs.Iterator.Runs.{CallKeepsClosure}
use Rattle.std.specs.Prelude.{true}
use Rattle.lock_api.specs.Waits.{RanOut}
use Rattle.lock_api.proofs.condvar.Condvar.wait_while_until.Given as goal

abbrev pub invariant-loop : goal.invariant-loop
invariant-loop g l = always_mut g.F.FnMut l.condition
    × (CallKeepsClosure g.F.FnMut l.initial.condition → l.condition ≡ l.initial.condition)
    × (l.guard.held.0.place ≡ l.initial.guard.held.0.place)
    × (l.ran_out ≡ true → RanOut (g.C.RawCondvarTimed.waited_in_time l.fn.self.raw))
