use Rattle.std.proofs.Common.{refl, of_calls, sym, ◌∙◌}
use Rattle.std.proofs.lemmas.Bool.{false≢true}
use denote.Param.Members.{was_Called}
use Rattle.lock_api.proofs.Refusing.{handed_on, was_refused_in_time, ran_out}
use Rattle.lock_api.proofs.condvar.Condvar.wait_while_until.Goals as goal
use Rattle.lock_api.proofs.condvar.Condvar.wait_while_until.Goals.{then-ran_out-via-then-ran_out}
use Rattle.lock_api.proofs.condvar.Condvar.wait_while_until.Goals.{then-ran_out-via-else-ran_out+then-not-waits}

pub loop-preserved : goal.loop-preserved
loop-preserved g c = (
  search of_calls,
  (λ stays. stays _ _ _
      (was_Called g.F.FnMut c.args.condition c.loop.condition _ _ _ c.condition-waits.new.self
      c.condition-waits.ensures.met (c.loop.invariant.1 stays) refl)),
  c.wait_until.ensures.lock ∙ c.loop.invariant.2,
  (λ late. ran_out (g.C.RawCondvarTimed.waited_in_time c.args.self.now.raw) _ _ _ _ c.in_ok-wait_until.was
      c.wait_until.ensures.answer (sym c.timed_out-ran_out.ensures ∙ late)),
)

pub returns-then-ran_out-clause-lock : goal.returns-then-ran_out-clause-lock
returns-then-ran_out-clause-lock g c = c.loop.invariant.2

pub returns-then-ran_out-clause-late : goal.returns-then-ran_out-clause-late
returns-then-ran_out-clause-late g c =
    elim c.then-ran_out.branch [
      | then-ran_out-via-then-ran_out w ↦ (λ _. c.loop.invariant.3 w.if-ran_out.true)
      | then-ran_out-via-else-ran_out+then-not-waits w ↦
          (λ late. absurd (false≢true (sym w.if-not-waits.true ∙ late)))
    ]

pub returns-in_err-wait_until-clause-lock : goal.returns-in_err-wait_until-clause-lock
returns-in_err-wait_until-clause-lock g c = c.wait_until.ensures.lock ∙ c.loop.invariant.2

pub returns-in_err-wait_until-clause-refused : goal.returns-in_err-wait_until-clause-refused
returns-in_err-wait_until-clause-refused g c = handed_on _ _ _ c.from_residual.ensures.1
    (was_refused_in_time c.loop.guard.held.0.place c.args.guard.now.held.0.place
    (λ place. g.C.RawCondvar.same_lot c.args.self.now.raw place.now)
    (g.C.RawCondvarTimed.waited_in_time c.args.self.now.raw) _ _ _ _ c.loop.invariant.2 c.in_err-wait_until.was
    c.wait_until.ensures.refused c.wait_until.ensures.answer)
