use Rattle.std.proofs.Common.{refl, of_calls, ◌∙◌}
use denote.Param.Members.{was_Called}
use Rattle.lock_api.proofs.Refusing.{handed_on, was_refused}
use Rattle.lock_api.proofs.condvar.Condvar.wait_while.Goals as goal

pub loop-preserved : goal.loop-preserved
loop-preserved g c = (
  search of_calls,
  (λ stays. stays _ _ _
      (was_Called g.F.FnMut c.args.condition c.loop.condition _ _ _ c.condition.new.self c.condition.ensures.met
      (c.loop.invariant.1 stays) refl)),
  c.wait.ensures.lock ∙ c.loop.invariant.2,
)

pub returns-then-not-condition-clause-lock : goal.returns-then-not-condition-clause-lock
returns-then-not-condition-clause-lock g c = c.loop.invariant.2

pub returns-in_err-wait-clause-lock : goal.returns-in_err-wait-clause-lock
returns-in_err-wait-clause-lock g c = c.wait.ensures.lock ∙ c.loop.invariant.2

pub returns-in_err-wait-clause-refused : goal.returns-in_err-wait-clause-refused
returns-in_err-wait-clause-refused g c = handed_on _ _ _ c.from_residual.ensures.1
    (was_refused c.loop.guard.held.0.place c.args.guard.now.held.0.place
    (λ place. g.C.RawCondvar.same_lot c.args.self.now.raw place.now) (g.C.RawCondvar.waited c.args.self.now.raw) _ _ _ _
    c.loop.invariant.2 c.in_err-wait.was c.wait.ensures.refused c.wait.ensures.answer)
