-- Each step of a run to the end keeps to its footprint, and keeps causes.
use Rattle.std.proofs.Common.{ℕ, List, [], ◌∷◌, sym, subst}
use Rattle.mapworld_calls.specs.Setup.{Setup, Laws}
use Rattle.mapworld_state.specs.Locks.Footprints.{StepsTouchOneLock}
use Rattle.mapworld_state.specs.declared.step.Step.{Step}
use Rattle.mapworld_state.specs.State.{State}
use Rattle.mapworld.specs.Progress.Drains.{Drains, DrainsBy}
use Rattle.mapworld_state.specs.Invariant.Causes.Causes.{HasCauses}
use Rattle.mapworld_state.proofs.InvariantFacts.CausesFacts.Keeping.{causes-step}
use Rattle.mapworld.specs.Drained.{Drained, DrainedBy}
use Rattle.mapworld.proofs.Footprints.{step_atomic}

module _ {K V S D T A : Type 0} (x : Setup K V D T) (laws : Laws x) (touch : StepsTouchOneLock) where
  drained : (w : State K V S D T A) (ss : List Step) (w' : State K V S D T A) → Drains x w ss w' → Drained x w ss w'
  drained w [] w' same = same
  drained w (s ∷ ss) w' (mid, makes, rest) = (
    mid,
    makes.moves,
    makes.own,
    makes.kind,
    step_atomic x laws w s mid makes.whole.sound touch makes.whole.locks makes.kind,
    drained mid ss w' rest,
  )

  pub drained-by : (w : State K V S D T A) (n : ℕ) (w' : State K V S D T A) → DrainsBy x w n w' → DrainedBy x w n w'
  drained-by w n w' by = record { steps = by.steps; count = by.count; made = drained w by.steps w' by.made }

  caused : (w : State K V S D T A) (ss : List Step) (w' : State K V S D T A) → Drains x w ss w' → HasCauses x w
      → HasCauses x w'
  caused w [] w' same causes = subst (HasCauses x) (sym same) causes
  caused w (s ∷ ss) w' (mid, makes, rest) causes =
      let whole = makes.whole in
      caused mid ss w' rest (causes-step x laws w s mid whole.sound whole.locks (sym whole.sizes.locks.threads_are)
      causes makes.kind)

  pub caused-by : (w : State K V S D T A) (n : ℕ) (w' : State K V S D T A) → DrainsBy x w n w' → HasCauses x w
      → HasCauses x w'
  caused-by w n w' by causes = caused w by.steps w' by.made causes
