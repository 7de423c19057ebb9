use Rattle.std.proofs.Common.{◌==◌, ap, subst, ℕ, Bool}
use Rattle.parking_lot_core_model.specs.Operations.{Resumes}
use Rattle.parking_lot_core_model.specs.Machine.{Machine, Does, resume_fault}
use Rattle.parking_lot_core.specs.Shared.{OnSomeLot, WasTold, WasHeld}
use Rattle.parking_lot_core.proofs.Moves.{one_goes_on}
use Rattle.parking_lot_core.proofs.parking_calls.park.Goals as goal

pub returns-in-Some-sleep-clause-ended : goal.returns-in-Some-sleep-clause-ended
returns-in-Some-sleep-clause-ended g c =
    let tells : ℕ → Bool → Type 0 = λ key last. goal.T-post g c.args.timed_out key last tt in
    let held : (old new : Machine) → WasTold c.collect.result old new → WasHeld old new =
    λ old new told. c.collect.ensures.held old new (subst (λ k. WasTold k old new) c.collect.ensures.token told) in
    λ _. (0, one_goes_on tells c.args.thread_data.now.thread c.collect.result held)

pub returns-in-None-sleep-clause-ended : goal.returns-in-None-sleep-clause-ended
returns-in-None-sleep-clause-ended g c =
    let tells : ℕ → Bool → Type 0 = λ key last. goal.T-post g c.args.timed_out key last tt in
    λ _. subst (λ t. (its : ℕ) × OnSomeLot (λ k. k == its) (Does (λ m. resume_fault m t) (Resumes tells t))
    c.give_up.result)
    (ap (λ d. d.thread) c.thread_data.view_is) c.give_up.ensures.ended
