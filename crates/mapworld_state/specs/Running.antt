-- Which steps are refused, and what a run of steps leads to.
use Rattle.std.specs.Prelude.{◌≡◌, ℕ, ◌+◌, ◌-◌, ◌*◌, ◌^◌, Bool, false, ◌||◌, is_none, if◌then◌else◌, nat_lt}
use Rattle.std.specs.Prelude.{nat_le, List, [], ◌∷◌, length, Option, Some, None, Result, Ok, Err, slice_get, sum_by}
use Rattle.mapworld_calls.specs.Setup.{Setup}
use Rattle.parking_lot_machine.specs.Rows.{state, call_at}
use Rattle.parking_lot_machine.specs.Machines.{can_move, is_asleep, may_expire}
use Rattle.mapworld_state.specs.Locks.Views.{Shown}
use Rattle.mapworld_state.specs.declared.faults.fault.RunFault.{RunFault}
use Rattle.mapworld_state.specs.declared.faults.fault.RunFault.TheVariants as fault
use Rattle.mapworld_state.specs.declared.step.Step.{Step}
use Rattle.mapworld_state.specs.declared.step.Status.{Status}
use Rattle.mapworld_state.specs.declared.step.Status.TheVariants as status
use Rattle.mapworld_state.specs.declared.place.Phase.{Phase}
use Rattle.mapworld_state.specs.Places.{Place}
use Rattle.mapworld_state.specs.Classes.{class_of, status_in, moves_in}
use Rattle.mapworld_state.specs.State.{State, pairs_of}
use Rattle.mapworld_state.specs.Steps.{IsStep}
use Rattle.mapworld_state.specs.Footprint.{HasFootprint}
use Rattle.mapworld_state.specs.Faults.Faults.{run_fault_done}

-- how many calls aren't answered
abbrev pub unanswered_of : {K V S D T A : Type 0} → State K V S D T A → ℕ
unanswered_of w = sum_by length w.programs - length w.replies

-- how many steps are enough, for n threads, s shards, p pairs and c unanswered calls
abbrev pub bound : ℕ → ℕ → ℕ → ℕ → ℕ
bound n s p c = 256 * (n + 1) * (n + 1) * (c + 1) * (s + 1) + 2 * (c + 1) * (p + c + 1)

abbrev pub bound_of : {K V S D T A : Type 0} → State K V S D T A → ℕ
bound_of w = bound (length w.programs) (length w.tables) (length (pairs_of w)) (unanswered_of w)

-- where a thread stands that has that place
abbrev pub status_before : {K V D T A : Type 0} → Shown → ℕ → ℕ → Phase K V D T A → Status
status_before locks t left f = status_in (is_asleep (state locks.rows) t) left (class_of f)

abbrev pub status_at : {K V D T A : Type 0} → Shown → ℕ → Option (Place K V D T A) → Status
status_at locks t None = status.Finished
status_at locks t (Some p) = status_before locks t (length p.asks) p.phase

abbrev pub status_of : {K V S D T A : Type 0} → State K V S D T A → ℕ → Status
status_of w t = status_at w.locks t (slice_get w.places t)

-- whether a thread is in no call at a lock, or can make a step of the one that it is in
abbrev pub goes_on : Shown → ℕ → Bool
goes_on locks t = is_none (call_at (state locks.rows) t) || can_move (state locks.rows) t

abbrev pub moves_before : {K V D T A : Type 0} → Shown → ℕ → ℕ → Phase K V D T A → Bool
moves_before locks t left f = moves_in (goes_on locks t) left (class_of f)

abbrev pub moves_at : {K V D T A : Type 0} → Shown → ℕ → Option (Place K V D T A) → Bool
moves_at locks t None = false
moves_at locks t (Some p) = moves_before locks t (length p.asks) p.phase

-- whether a step of a thread's own would be done: its calls aren't all answered, it isn't asleep, and it isn't before a
-- queue's section that another thread has entered
abbrev pub can_move_in : {K V S D T A : Type 0} → State K V S D T A → ℕ → Bool
can_move_in w t = moves_at w.locks t (slice_get w.places t)

-- whether a step would be done: its thread can make one, or, where it is the thread's deadline, the thread sleeps in a
-- call that has one, and it hasn't come
abbrev pub may_step : {K V S D T A : Type 0} → State K V S D T A → Step → Bool
may_step w s = if s.deadline then may_expire (state w.locks.rows) s.thread else can_move_in w s.thread

-- whether a number is left for one more step
abbrev pub has_next : {K V S D T A : Type 0} → State K V S D T A → Bool
has_next w = nat_lt (length w.steps + 1) (2 ^ 63)

-- whether step numbers are left for one more step and all that must come after it
abbrev pub has_numbers : {K V S D T A : Type 0} → State K V S D T A → Bool
has_numbers w = nat_le (length w.steps + 1 + bound_of w + 2 * (unanswered_of w + 1)) (2 ^ 63)

-- why a step is refused where n steps of the run are done, tried in this order
abbrev pub refusal : {K V S D T A : Type 0} → State K V S D T A → ℕ → Step → Option RunFault
refusal w n s =
    if nat_lt s.thread (length w.programs)
    then (if may_step w s
    then (if has_numbers w then None else Some (fault.StepsShort n))
    else Some (fault.CannotMove n))
    else Some (fault.NoSuchThread n)

-- the steps lead from one world to the other, one after another, each one of a kind and within its footprint, and none
-- refused
abbrev pub Ran : {K V S D T A : Type 0} → Setup K V D T → ℕ → State K V S D T A → List Step → State K V S D T A → Type 0
Ran x n w [] w' = w' ≡ w
Ran {K} {V} {S} {D} {T} {A} x n w (s ∷ steps) w' =
    (mid : State K V S D T A) × (refusal w n s ≡ None) × IsStep x w s mid × HasFootprint x.eq w s mid
    × Ran x (n + 1) mid steps w'

-- how many of n steps a run did
abbrev pub steps_done : {X : Type 0} → Result X RunFault → ℕ → ℕ
steps_done (Ok x) n = n
steps_done (Err f) n = run_fault_done f

-- the step that a run stopped at is refused so, by the world that it left
abbrev pub StopsAt : {K V S D T A : Type 0} → State K V S D T A → List Step → RunFault → Type 0
StopsAt w steps f = (step : Step) × (slice_get steps (run_fault_done f) ≡ Some step)
    × (refusal w (run_fault_done f) step ≡ Some f)

-- what a run never changes
pub record StaysFixed {K V S D T A : Type 0} (w w' : State K V S D T A) : Type 0 where
  pub hasher : w'.hasher ≡ w.hasher
  pub shards : length w'.tables ≡ length w.tables
  pub opening : w'.opening ≡ w.opening
  pub programs : w'.programs ≡ w.programs
