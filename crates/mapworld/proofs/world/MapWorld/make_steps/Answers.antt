use Rattle.std.proofs.Common.{◌≡◌, ◌+◌, ◌<◌, false, length, take, get_or, slice_get, ap, sym, ◌∙◌, subst, arith}
use Rattle.std.proofs.lemmas.List.{take_more, length-take-le}
use Rattle.std.proofs.lemmas.Option.{slice_get-get_or}
use Rattle.std.proofs.lemmas.Result.{err_from_is_err_and}
use Rattle.mapworld_state.specs.Running.{refusal, Ran}
use Rattle.mapworld_state.specs.Steps.{IsStep}
use Rattle.mapworld_state.specs.World.{setup_of}
use Rattle.mapworld_state.specs.Faults.Faults.{run_fault_done}
use Rattle.mapworld_state.proofs.InvariantFacts.Adding.{step-adds, fixed-more}
use Rattle.mapworld.proofs.Runs.{Ran-more}
use Rattle.mapworld.proofs.ProgressFacts.Draining.{setup-fixed}
use Rattle.mapworld_transitions.proofs.Keys.{setup-laws}
use Rattle.mapworld.proofs.Footprints.{step_footprint}
use Rattle.mapworld.proofs.Histories.{history-more}
use Rattle.mapworld.proofs.Faulting.{refusal-done}
use Rattle.mapworld.proofs.world.MapWorld.make_steps.Goals as goal

pub returns-in_err-make_step-clause-refused : goal.returns-in_err-make_step-clause-refused
returns-in_err-make_step-clause-refused g c =
    let p = err_from_is_err_and c.from_residual.result c.from_residual.ensures.1 in
    let mid = c.loop-step.self in
    let i = c.loop-step.step-index in
    let step = get_or c.args.steps.now i (record { thread = 0; fair = false; deadline = false }) in
    let f = c.in_err-make_step.field-0.0 in
    let m = c.in_err-make_step.ensures.made in
    let done : run_fault_done f ≡ c.loop-step.done = refusal-done mid c.loop-step.done step f m.1 in
    rw (p.1, p.2) (
      step,
      ap (λ n. slice_get c.args.steps.now n) (done ∙ c.loop-step.invariant.done)
          ∙ slice_get-get_or c.args.steps.now i (record { thread = 0; fair = false; deadline = false })
          c.loop-step-test.true,
      ap (λ w. refusal w (run_fault_done f) step) m.0 ∙ (ap (λ n. refusal mid n step) done ∙ m.1),
    )

pub returns-in_err-make_step-clause-ran : goal.returns-in_err-make_step-clause-ran
returns-in_err-make_step-clause-ran g c =
    let p = err_from_is_err_and c.from_residual.result c.from_residual.ensures.1 in
    let first = c.args.self.now in
    let mid = c.loop-step.self in
    let i = c.loop-step.step-index in
    let steps = c.args.steps.now in
    let step = get_or steps i (record { thread = 0; fair = false; deadline = false }) in
    let x = setup_of g.D.Deed g.S.BuildHasher g.S.Hasher.Hasher g.K.PartialEq.eq g.K.Hash.hash_input first in
    let f = c.in_err-make_step.field-0.0 in
    let m = c.in_err-make_step.ensures.made in
    let done : run_fault_done f ≡ i = refusal-done mid c.loop-step.done step f m.1 ∙ c.loop-step.invariant.done in
    rw (p.1, p.2) (subst (λ n. Ran x 0 first (take n steps) c.make_step.new.self) (sym done)
    (subst (λ w. Ran x 0 first (take i steps) w) (sym m.0) c.loop-step.invariant.ran))

pub loop-step-preserved : goal.loop-step-preserved
loop-step-preserved g c =
    let first = c.args.self.now in
    let mid = c.loop-step.self in
    let new = c.make_step.new.self in
    let i = c.loop-step.step-index in
    let steps = c.args.steps.now in
    let lt : i < length steps = c.loop-step-test.true in
    let step = get_or steps i (record { thread = 0; fair = false; deadline = false }) in
    let x = setup_of g.D.Deed g.S.BuildHasher g.S.Hasher.Hasher g.K.PartialEq.eq g.K.Hash.hash_input first in
    let m = c.in_ok-make_step.ensures.made in
    let same = setup-fixed g.D.Deed g.S.BuildHasher g.S.Hasher.Hasher g.K.PartialEq.eq g.K.Hash.hash_input first mid
    c.loop-step.invariant.fixed in
    let made = subst (λ y. IsStep y mid step new) same m.1 in
    let added = step-adds (setup_of g.D.Deed g.S.BuildHasher g.S.Hasher.Hasher g.K.PartialEq.eq g.K.Hash.hash_input
    mid) mid step new c.in_ok-make_step.ensures.sound m.1 in
    let own = setup_of g.D.Deed g.S.BuildHasher g.S.Hasher.Hasher g.K.PartialEq.eq g.K.Hash.hash_input mid in
    let laws = setup-laws g.D.Deed g.S.BuildHasher g.S.Hasher.Hasher g.K.PartialEq.eq g.K.Hash.hash_input mid
    g.met.K.Eq.laws g.met.K.Hash.respects_eq in
    let footprint = step_footprint own laws mid step new c.in_ok-make_step.ensures.sound
    c.steps_touch_one_lock.ensures c.in_ok-make_step.ensures.fit m.1 in
    let taken : length (take i steps) ≡ i = length-take-le i steps (omega arith) in
    let count : 0 + length (take i steps) ≡ c.loop-step.done = omega (arith, taken, c.loop-step.invariant.done) in
    record {
      ran = subst (λ ss. Ran x 0 first ss new)
          (sym (take_more steps i (record { thread = 0; fair = false; deadline = false }) lt))
          (Ran-more x 0 first (take i steps) mid step new c.loop-step.invariant.ran
          (ap (λ n. refusal mid n step) count ∙ m.0) made footprint);
      done = ap (λ n. n + 1) c.loop-step.invariant.done;
      adds = history-more first mid new step c.loop-step.invariant.adds added;
      fixed = fixed-more first mid new c.loop-step.invariant.fixed added.fixed;
    }
