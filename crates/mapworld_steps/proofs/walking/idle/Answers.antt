use Rattle.std.proofs.Common.{inr, subst}
use Rattle.mapworld_calls.specs.Setup.{Setup}
use Rattle.mapworld_state.specs.Core.{state_of}
use Rattle.mapworld_state.specs.Steps.{Answers, answers, idle}
use Rattle.mapworld_steps.proofs.Setups.{setup-unvisited}
use Rattle.mapworld_steps.proofs.walking.idle.Goals as goal

pub returns-clause-step : goal.returns-clause-step
returns-clause-step g c =
    let mid = state_of c.give_none.new.core in
    let gives = c.give_none.ensures.gives in
    answers (record {
      mid = mid;
      leaves = inr (idle gives);
      answers = subst (λ (x : Setup _ _ _ _). Answers x mid c.args.step (state_of c.answer.new.core))
          (setup-unvisited g.D.Deed g.S.BuildHasher g.S.Hasher.Hasher g.K.PartialEq.eq g.K.Hash.hash_input
          (state_of c.args.core.now) mid c.args.step.thread gives) c.answer.ensures.step;
    })
