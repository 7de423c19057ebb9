-- Runs of steps, one step more.
use Rattle.std.proofs.Common.{◌≡◌, ℕ, ◌+◌, List, [], ◌∷◌, ◌++◌, length, None, refl, ap, sym, ◌∙◌, subst, arith, Bool}
use Rattle.std.proofs.Common.{true, false, if◌then◌else◌, nat_lt, Some}
use Rattle.mapworld_calls.specs.Setup.{Setup}
use Rattle.mapworld_state.specs.declared.step.Step.{Step}
use Rattle.mapworld_state.specs.State.{State}
use Rattle.mapworld_state.specs.Steps.{IsStep}
use Rattle.mapworld_state.specs.Footprint.{HasFootprint}
use Rattle.mapworld_state.specs.declared.faults.fault.RunFault.{RunFault}
use Rattle.mapworld_state.specs.declared.faults.fault.RunFault.TheVariants.{CannotMove, NoSuchThread, StepsShort}
use Rattle.mapworld_state.specs.Running.{has_numbers, may_step, refusal, Ran}
use Rattle.mapworld.specs.Reachable.{LeadsTo}
use Rattle.std.proofs.lemmas.Option.{none-some}

module _ {K V S D T A : Type 0} (x : Setup K V D T) where
  pub Ran-more : (n : ℕ) (w : State K V S D T A) (steps : List Step) (w' : State K V S D T A) (s : Step)
      (w'' : State K V S D T A)
      → Ran x n w steps w' → refusal w' (n + length steps) s ≡ None → IsStep x w' s w'' → HasFootprint x.eq w' s w''
      → Ran x n w (steps ++ s ∷ []) w''
  Ran-more n w [] w' s w'' ran free_ step footprint =
      let here : n + 0 ≡ n = omega arith in
      subst (λ (v : State K V S D T A). Ran x n v (s ∷ []) w'') ran
      (w'', ap (λ k. refusal w' k s) (sym here) ∙ free_, step, footprint, refl)
  Ran-more n w (t ∷ steps) w' s w'' ran free_ step footprint =
      let here : n + length (t ∷ steps) ≡ n + 1 + length steps = omega arith in (
        ran.0,
        ran.1,
        ran.2,
        ran.3,
        Ran-more (n + 1) ran.0 steps w' s w'' ran.4
            (ap (λ k. refusal w' k s) (sym here) ∙ free_) step footprint,
      )

-- a step that isn't refused may be made
free-moves : {K V S D T A : Type 0} (w : State K V S D T A) (n : ℕ) (s : Step) → refusal w n s ≡ None
    → may_step w s ≡ true
free-moves w n s e = by (nat_lt s.thread (length w.programs)) (may_step w s) (has_numbers w) (StepsShort n)
    (CannotMove n) (NoSuchThread n) e
  where
    by : (a b c : Bool) (f g h : RunFault) → (if a then (if b then (if c then None else Some f) else Some g) else
        Some h) ≡ None → b ≡ true
    by true true c f g h e = refl
    by true false c f g h e = absurd (none-some g (sym e))
    by false b c f g h e = absurd (none-some h (sym e))

-- so a run is a schedule
pub ran-leads : {K V S D T A : Type 0} (x : Setup K V D T) (n : ℕ) (w : State K V S D T A) (steps : List Step)
    (w' : State K V S D T A) → Ran x n w steps w' → LeadsTo x w steps w'
ran-leads x n w [] w' same = same
ran-leads x n w (s ∷ steps) w' (mid, free_, step, print, rest) = (
  mid,
  free-moves w n s free_,
  step,
  ran-leads x
      (n + 1) mid steps w' rest,
)
