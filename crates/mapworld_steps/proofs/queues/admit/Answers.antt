use Rattle.std.proofs.Common.{inr, subst}
use Rattle.mapworld_calls.specs.Setup.{Setup}
use Rattle.mapworld_state.specs.Core.{state_of}
use Rattle.mapworld_state.specs.Steps.{Finds, Answers, find, answers, locked}
use Rattle.mapworld_steps.proofs.Setups.{setup-entered, setup-locked}
use Rattle.mapworld_steps.proofs.queues.admit.Goals as goal

pub returns-in-Some-Owned-clause-step : goal.returns-in-Some-Owned-clause-step
returns-in-Some-Owned-clause-step g c =
    let mid = state_of c.enter_shard.new.core in
    let enters = c.enter_shard.ensures.enters in
    find (record {
      mid = mid;
      enters = inr enters;
      finds = subst (λ (x : Setup _ _ _ _). Finds x mid c.args.step (state_of c.find.new.core))
          (setup-entered g.D.Deed g.S.BuildHasher g.S.Hasher.Hasher g.K.PartialEq.eq g.K.Hash.hash_input
          (state_of c.args.core.now) mid c.args.step.thread enters) c.find.ensures.step;
    })

pub returns-in-Some : goal.returns-in-Some
returns-in-Some g c =
    let mid = state_of c.refuse_call.new.core in
    let lost = c.refuse_call.ensures.locked in
    record {
      step = answers (record {
        mid = mid;
        leaves = inr (locked lost);
        answers = subst (λ (x : Setup _ _ _ _). Answers x mid c.args.step (state_of c.answer.new.core))
            (setup-locked g.D.Deed g.S.BuildHasher g.S.Hasher.Hasher g.K.PartialEq.eq g.K.Hash.hash_input
            (state_of c.args.core.now) mid c.args.step.thread lost) c.answer.ensures.step;
      });
      room = c.answer.ensures.room;
      slots = c.answer.ensures.slots;
    }
