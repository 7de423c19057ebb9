-- What a step of the machine is to its locks and to its condition variables, each by itself.
use Rattle.std.specs.Prelude.{◌≡◌, ◌≢◌, ℕ, ◌+◌, if◌then◌else◌, Bool, true, false, List, [], ◌∷◌, length, map, Option}
use Rattle.std.specs.Prelude.{Some, None}
use Rattle.parking_lot_rules.specs.Mutex.{Mutex, Runs as MutexRuns}
use Rattle.parking_lot_rules.specs.Variable as rules
use Rattle.parking_lot_machine_sides.specs.declared.condvar.calls.CondvarCall.{CondvarCall}
use Rattle.parking_lot_machine_sides.specs.declared.condvar.open_call.OpenCall.{OpenCall}
use Rattle.parking_lot_machine_sides.specs.Condvar.Machines.{State as Var, variable}
use Rattle.parking_lot_machine_sides.specs.Condvar.Steps.{Runs}
use Rattle.parking_lot_machine_calls.specs.declared.calls.LockCall.{LockCall}
use Rattle.parking_lot_machine.specs.Requeues.{pull_run, requeue_run}
use Rattle.parking_lot_machine.specs.Rows.{State, hold_at, lock_at, mutex_at, state}
use Rattle.parking_lot_machine_calls.specs.CallRoles.{owns_mutex}
use Rattle.parking_lot_machine.specs.SoundLaws.{IsStepAt}
use Rattle.parking_lot_machine_waits.specs.declared.ended.Ended.{Ended}
use Rattle.parking_lot_machine_waits.specs.declared.turn.Turn.TheVariants as turn
use Rattle.parking_lot_machine_waits.specs.Joint.{Joint, call_at, lock_of, number, var_at}
use Rattle.parking_lot_machine_waits.specs.JointLaws.{PartsFit}
use Rattle.parking_lot_machine_waits.specs.JointSteps.{IsAsked, IsCalled, IsGone, IsLate, IsMoving, is_locked}
use Rattle.parking_lot_machine_waits.specs.JointSteps.{takes_now}
use Rattle.parking_lot_machine_waits.specs.Moving.{back_in}
use Rattle.parking_lot_machine_waits.specs.Turns.{turn_of}
use Rattle.parking_lot_machine_waits.specs.Whole.{IsWhole}

-- Of n threads, thread t has made these cases of a lock without a word at lock m, one after another, each by its second
-- number or its first; all other locks are as they were, and all are of the kinds of which they were.
abbrev pub AreCases : ℕ → ℕ → ℕ → List Bool → State → State → Type 0
AreCases n t m [] s u = (i : ℕ) → lock_at u i ≡ lock_at s i
AreCases n t m (second ∷ by) s u = (x : State) × IsStepAt (if second then n + t else t) m s x × (x.kinds ≡ s.kinds)
    × AreCases n t m by x u

-- it has made steps of the rules of a variable
abbrev pub RunsIn : ℕ → Option Var → Option Var → Type 0
RunsIn t None None = Unit {0}
RunsIn t (Some x) (Some y) = (steps : List rules.Step) × Runs t steps (variable x) (variable y)
RunsIn t None (Some y) = ⊥
RunsIn t (Some x) None = ⊥

-- What a thread does at once, at one lock and at one variable. All else is as it was.
pub record IsCase (t : ℕ) (i j : Joint) : Type 0 where
  pub lock : ℕ
  pub by : List Bool
  pub cases : AreCases (length i.seats) t lock by (state i.rows) (state j.rows)
  pub at : ℕ
  pub runs : RunsIn t (var_at i at) (var_at j at)
  pub elsewhere : (v : ℕ) → v ≢ at → var_at j v ≡ var_at i v

-- Each beginning, step and deadline is that.
pub record StepsAreCases : Type 0 where
  pub asks : (t lock : ℕ) (c : LockCall) (i j : Joint) → PartsFit i → IsAsked t lock c i j → IsCase t i j
  pub calls : (t v : ℕ) (c : CondvarCall) (i j : Joint) → PartsFit i → IsCalled t v c i j → IsCase t i j
  pub steps : (t : ℕ) (fair : Bool) (end : Option Ended) (i j : Joint) → PartsFit i → IsGone t fair end i j
      → IsCase t i j
  pub deadlines : (t : ℕ) (i j : Joint) → PartsFit i → IsLate t i j → IsCase t i j

-- WHAT A NOTIFICATION DOES AT THE MUTEX

-- To move waiters is a run of the rules' steps at the mutex, by the one that moves them: where it is locked all come
-- into its list, and else the first is woken, and the others stand behind it.
abbrev pub MovesAsRun : Bool → ℕ → Bool → List ℕ → Mutex → Mutex → Type 0
MovesAsRun locked by o [] m n = n ≡ m
MovesAsRun true by o (w ∷ ws) m n = MutexRuns m (requeue_run by o (w ∷ ws)) n
MovesAsRun false by o (w ∷ ws) m n = MutexRuns m (pull_run by o w ws) n

-- So it is what a notification does at the mutex that is shown, by the thread's first number.
abbrev pub IsRunAt : ℕ → ℕ → ℕ → CondvarCall → Joint → Joint → Type 0
IsRunAt t v lock c i j =
    MovesAsRun (is_locked i lock) (number i t false) (owns_mutex (hold_at (state i.rows) (number i t false) lock))
    (map (back_in i.seats) (takes_now c (var_at i v)))
    (mutex_at (state i.rows) lock) (mutex_at (state j.rows) lock)

-- That is so of each notification.
abbrev pub NotificationsAreRuns : Type 0
NotificationsAreRuns = (t v : ℕ) (c : OpenCall) (i j : Joint) → IsWhole i → PartsFit i → call_at i v t ≡ Some c
    → turn_of c ≡ turn.Moves → IsMoving t v c i j → IsRunAt t v (lock_of (var_at i v)) c.call i j
