-- That a world comes to its end.
use Rattle.std.specs.Prelude.{◌≡◌, ℕ, ◌+◌, ◌<◌, ◌≤◌, true, false, length, Some, slice_get}
use Rattle.mapworld_calls.specs.declared.ask.Walk.{Walk}
use Rattle.mapworld_calls.specs.Setup.{Setup, Laws}
use Rattle.mapworld_state.specs.Locks.Fits.{LocksFit}
use Rattle.mapworld_state.specs.declared.holds.Hold.{Hold}
use Rattle.mapworld_state.specs.declared.place.Phase.TheVariants as phase
use Rattle.mapworld_state.specs.declared.step.Step.{Step}
use Rattle.mapworld_state.specs.Places.{Place}
use Rattle.mapworld_state.specs.Running.{bound_of, can_move_in, unanswered_of}
use Rattle.mapworld_state.specs.State.{State, pairs_of}
use Rattle.mapworld_state.specs.Steps.{IsStep}
use Rattle.mapworld.specs.Progress.Left.{left, most_left}
use Rattle.mapworld.specs.Progress.Rest.{IsAtRest}
use Rattle.mapworld.specs.Progress.Sizes.{IsSized}
use Rattle.mapworld.specs.Progress.Whole.{IsWhole}

-- a step that isn't a deadline lowers the steps that are left, where its thread is stepped on
abbrev pub StepsFall : (K V S D T A : Type 0) → Type 0
StepsFall K V S D T A = (x : Setup K V D T) → Laws x → (w : State K V S D T A) (s : Step) (w' : State K V S D T A)
    → IsWhole x w → s.deadline ≡ false → IsStep x w s w' → left x w' s.thread + 1 ≤ left x w s.thread

-- Whichever thread is stepped, the steps that are left are no more than its threads and unanswered calls take at most,
-- and fewer than the bound by more than one.
pub record FewAreLeft {K V S D T A : Type 0} (x : Setup K V D T) (w : State K V S D T A) : Type 0 where
  pub most : (t : ℕ) → left x w t ≤ most_left (length w.programs) (length w.tables)
      (length (pairs_of w) + unanswered_of w) (unanswered_of w)
  pub bounded : most_left (length w.programs) (length w.tables) (length (pairs_of w) + unanswered_of w)
      (unanswered_of w) + 1 < bound_of w

abbrev pub StepsAreFew : (K V S D T A : Type 0) → Type 0
StepsAreFew K V S D T A = (x : Setup K V D T) (w : State K V S D T A) → IsSized w → LocksFit w.locks → FewAreLeft x w

-- where a thread can't move, any other may be stepped from there on
abbrev pub OthersGoOn : (K V S D T A : Type 0) → Type 0
OthersGoOn K V S D T A = (x : Setup K V D T) (w : State K V S D T A) → IsWhole x w → (t : ℕ) → can_move_in w t ≡ false
    → (u : ℕ) → left x w u ≤ left x w t

-- a walk that keeps a shard while it waits keeps the one below the shard that it waits for
abbrev pub WalksRise : (K V S D T A : Type 0) → Type 0
WalksRise K V S D T A =
    (x : Setup K V D T) (w : State K V S D T A) → IsWhole x w → (t : ℕ) (p : Place K V D T A)
    → slice_get w.places t ≡ Some p → (f : Walk D) → p.phase ≡ phase.Reach f
    → (p.shard < length w.tables) × ((i : ℕ) (h : Hold) → slice_get p.holds i ≡ Some h → h.shard + 1 ≡ p.shard)

-- while a call is unanswered, some thread can move
abbrev pub SomebodyMoves : (K V S D T A : Type 0) → Type 0
SomebodyMoves K V S D T A = (x : Setup K V D T) (w : State K V S D T A) → IsWhole x w → 0 < unanswered_of w → (t : ℕ)
    × (can_move_in w t ≡ true)

-- where nobody can move, all is done
abbrev pub EndsAtRest : (K V S D T A : Type 0) → Type 0
EndsAtRest K V S D T A = (x : Setup K V D T) (w : State K V S D T A) → IsWhole x w → ((t : ℕ) → can_move_in w t ≡ false)
    → IsAtRest w
