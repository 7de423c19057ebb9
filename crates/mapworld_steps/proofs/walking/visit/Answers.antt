use Rattle.std.proofs.Common.{inl, inr, refl, subst}
use Rattle.mapworld_calls.specs.Setup.{Setup}
use Rattle.mapworld_state.specs.Core.{state_of}
use Rattle.mapworld_state.specs.Steps.{visit_looks}
use Rattle.mapworld_steps.specs.Visits.{LooksOrIsRefused}
use Rattle.mapworld_steps.proofs.Setups.{setup-left}
use Rattle.mapworld_steps.proofs.walking.visit.Goals as goal

pub returns-then-not-is_in_call-clause-step : goal.returns-then-not-is_in_call-clause-step
returns-then-not-is_in_call-clause-step g c =
    visit_looks (record { mid = state_of c.args.core.now; enters = inl refl; looks = c.look.ensures.step })

pub returns-then-is_some-clause-step : goal.returns-then-is_some-clause-step
returns-then-is_some-clause-step g c =
    let mid = state_of c.leave_lock.new.core in
    let leaves = c.leave_lock.ensures.leaves in
    visit_looks (record {
      mid = mid;
      enters = inr (inr leaves);
      looks = subst (λ (x : Setup _ _ _ _). LooksOrIsRefused x mid c.args.step (state_of c.look-then-is_some.new.core))
          (setup-left g.D.Deed g.S.BuildHasher g.S.Hasher.Hasher g.K.PartialEq.eq g.K.Hash.hash_input
          (state_of c.args.core.now) mid c.args.step.thread leaves) c.look-then-is_some.ensures.step;
    })
