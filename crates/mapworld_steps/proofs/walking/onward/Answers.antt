use Rattle.std.proofs.Common.{inl, inr, refl, subst}
use Rattle.mapworld_calls.specs.Setup.{Setup}
use Rattle.mapworld_state.specs.Core.{state_of}
use Rattle.mapworld_state.specs.Steps.{StartsVisit, visit_starts}
use Rattle.mapworld_steps.proofs.Setups.{setup-left}
use Rattle.mapworld_steps.proofs.walking.onward.Goals as goal

pub returns-then-not-is_in_call-clause-step : goal.returns-then-not-is_in_call-clause-step
returns-then-not-is_in_call-clause-step g c =
    visit_starts (record { mid = state_of c.args.core.now; leaves = inl refl; starts = c.start_visit.ensures.step })

pub returns-then-is_some-clause-step : goal.returns-then-is_some-clause-step
returns-then-is_some-clause-step g c =
    let mid = state_of c.leave_lock.new.core in
    let leaves = c.leave_lock.ensures.leaves in
    visit_starts (record {
      mid = mid;
      leaves = inr leaves;
      starts = subst (λ (x : Setup _ _ _ _). StartsVisit x mid c.args.step
          (state_of c.start_visit-then-is_some.new.core))
          (setup-left g.D.Deed g.S.BuildHasher g.S.Hasher.Hasher g.K.PartialEq.eq g.K.Hash.hash_input
          (state_of c.args.core.now) mid c.args.step.thread leaves) c.start_visit-then-is_some.ensures.step;
    })
