use Rattle.std.proofs.Common.{◌+◌, take, get_or, slice_get, ap, sym, ◌∙◌, subst}
use Rattle.std.proofs.lemmas.List.{take_more}
use Rattle.std.proofs.lemmas.Option.{slice_get-get_or}
use Rattle.parking_lot_world.specs.declared.calls.LockCall.TheVariants as call
use Rattle.parking_lot_world.specs.declared.step.WorldStep.TheVariants as step
use Rattle.parking_lot_world.specs.Worlds.{Ran, refusal}
use Rattle.parking_lot_world.proofs.Scheduling.{ran-more}
use Rattle.parking_lot_world.proofs.world.World.make_steps.Goals as goal

-- src/world.rt:120:17
pub returns-in-Err-clause-refused : goal.returns-in-Err-clause-refused
returns-in-Err-clause-refused g c =
    let i = c.loop-step.step-index in
    let one = get_or c.args.steps.now i (step.Begin 0 0 call.Lock) in (
      one,
      ap (slice_get c.args.steps.now) c.loop-step.invariant.done
          ∙ slice_get-get_or c.args.steps.now i (step.Begin 0 0 call.Lock) c.loop-step-test.true,
      ap (λ w. refusal w one) c.in-Err.ensures.made.0 ∙ c.in-Err.ensures.made.1,
    )

-- src/world.rt:118:9
pub loop-step-preserved : goal.loop-step-preserved
loop-step-preserved g c =
    let i = c.loop-step.step-index in
    let steps = c.args.steps.now in
    let one = get_or steps i (step.Begin 0 0 call.Lock) in
    record {
      ran = subst (λ ss. Ran c.args.self.now ss c.make_step.new.self)
          (sym (take_more steps i (step.Begin 0 0 call.Lock) c.loop-step-test.true))
          (ran-more c.args.self.now (take i steps) c.loop-step.self one c.make_step.new.self c.loop-step.invariant.ran
          c.in_default.ensures.made.0 c.in_default.ensures.made.1 c.make_step.ensures.fits);
      done = ap (λ n. n + 1) c.loop-step.invariant.done;
      lasts = λ i done. c.make_step.ensures.lasts i (c.loop-step.invariant.lasts i done);
    }
