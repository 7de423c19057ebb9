use Rattle.std.proofs.Common.{inl, inr, subst}
use Rattle.mapworld_calls.specs.Setup.{Setup}
use Rattle.mapworld_state.specs.Core.{state_of}
use Rattle.mapworld_state.specs.Steps.{visit_parts, visit_looks}
use Rattle.mapworld_steps.specs.Visits.{PartsOnly, LooksOrIsRefused}
use Rattle.mapworld_steps.proofs.Setups.{setup-reached}
use Rattle.mapworld_steps.proofs.walking.reach.Goals as goal

pub returns-then-reach_shard-clause-step : goal.returns-then-reach_shard-clause-step
returns-then-reach_shard-clause-step g c =
    let mid = state_of c.reach_shard.new.core in
    let reaches = c.reach_shard.ensures.reaches in
    visit_parts (record {
      mid = mid;
      enters = inr reaches;
      gives = subst (λ (x : Setup _ _ _ _). PartsOnly x mid c.args.step (state_of c.part.new.core))
          (setup-reached g.D.Deed g.S.BuildHasher g.S.Hasher.Hasher g.K.PartialEq.eq g.K.Hash.hash_input
          (state_of c.args.core.now) mid c.args.step.thread reaches) c.part.ensures.step;
    })

pub returns-else-reach_shard-clause-step : goal.returns-else-reach_shard-clause-step
returns-else-reach_shard-clause-step g c =
    let mid = state_of c.reach_shard.new.core in
    let reaches = c.reach_shard.ensures.reaches in
    visit_looks (record {
      mid = mid;
      enters = inr (inl reaches);
      looks = subst (λ (x : Setup _ _ _ _). LooksOrIsRefused x mid c.args.step (state_of c.look.new.core))
          (setup-reached g.D.Deed g.S.BuildHasher g.S.Hasher.Hasher g.K.PartialEq.eq g.K.Hash.hash_input
          (state_of c.args.core.now) mid c.args.step.thread reaches) c.look.ensures.step;
    })
