-- How many steps are left at locks and condition variables together, where one thread is stepped until it can't move.
use Rattle.std.specs.Prelude.{◌≡◌, ℕ, ◌+◌, ◌*◌, ◌<◌, ◌≤◌, Bool, true, false, if◌then◌else◌, length, Option, Some, None}
use Rattle.std.specs.List.{sum_by}
use Rattle.parking_lot_protocol_waits.specs.declared.wait_core.WaitPhase.{WaitPhase}
use Rattle.parking_lot_protocol_waits.specs.declared.wait_core.WaitPhase.TheVariants as w
use Rattle.parking_lot_machine_sides.specs.declared.condvar.calls.CondvarCall.{CondvarCall}
use Rattle.parking_lot_machine_sides.specs.declared.condvar.open_call.Core.{Core}
use Rattle.parking_lot_machine_sides.specs.declared.condvar.open_call.Core.TheVariants as core
use Rattle.parking_lot_machine_sides.specs.declared.condvar.open_call.OpenCall.{OpenCall}
use Rattle.parking_lot_machine_sides.specs.Condvar.Machines.{State as Var}
use Rattle.parking_lot_machine_sides.specs.Condvar.Ranks as vars
use Rattle.parking_lot_machine_calls.specs.declared.calls.LockCall.{LockCall}
use Rattle.parking_lot_machine_calls.specs.declared.open_call.Call.{Call}
use Rattle.parking_lot_machine.specs.Machines as rows
use Rattle.parking_lot_machine.specs.Ranks as row
use Rattle.parking_lot_machine.specs.Rows.{call_at as row_call_at, state}
use Rattle.parking_lot_machine.specs.SoundLaws.{most_steps}
use Rattle.parking_lot_machine_waits.specs.declared.ended.Ended.{Ended}
use Rattle.parking_lot_machine_waits.specs.Joint.{Joint, back_number, busy_number, call_at, front_number}
use Rattle.parking_lot_machine_waits.specs.Joint.{is_open_at_variables, seat_at}
use Rattle.parking_lot_machine_waits.specs.JointLaws.{PartsFit}
use Rattle.parking_lot_machine_waits.specs.JointMoves.{may_ask, may_call_at, may_expire, may_go}
use Rattle.parking_lot_machine_waits.specs.JointSteps.{IsAsked, IsCalled, IsGone, IsLate}
use Rattle.parking_lot_machine_waits.specs.Whole.{IsWhole}

-- BY WHICH NUMBER A THREAD IS STEPPED

-- a wait hasn't given its mutex up yet
abbrev pub phase_in_front : WaitPhase → Bool
phase_in_front (w.Enters m) = true
phase_in_front (w.Checks m) = true
phase_in_front w.Retreats = true
phase_in_front (w.Appends m) = true
phase_in_front (w.Shows m) = true
phase_in_front (w.Rests m) = true
phase_in_front (w.Unlocks m) = true
phase_in_front p = false

abbrev pub is_in_front : Core → Bool
is_in_front (core.Wait k) = phase_in_front k.phase
is_in_front (core.Notify k) = true

-- in a call at a variable: by the number that gives the mutex up, and then by the one that locks it again
abbrev pub stepping_as : Option OpenCall → Joint → ℕ → ℕ
stepping_as None j t = busy_number j t
stepping_as (Some c) j t = (if is_in_front c.core then front_number j t else back_number j t)

abbrev pub stepping_at : Option ℕ → Joint → ℕ → ℕ
stepping_at None j t = busy_number j t
stepping_at (Some v) j t = stepping_as (call_at j v t) j t

abbrev pub stepping_number : Joint → ℕ → ℕ
stepping_number j t = stepping_at (seat_at j t).at j t

-- HOW MANY ARE LEFT

abbrev pub left_in : Option Var → ℕ
left_in None = 0
left_in (Some x) = vars.left x

abbrev pub left_at_variables : Joint → ℕ
left_at_variables j = sum_by left_in j.vars

-- An act at a variable counts for itself and for all that it may begin at a mutex, which is to give it up at most.
abbrev pub weight : ℕ
weight = 116

-- the steps of all threads, where thread t is stepped
abbrev pub steps_left : Joint → ℕ → ℕ
steps_left j t = row.steps_left (state j.rows) (stepping_number j t) + weight * left_at_variables j

-- WHAT IS PAID

-- the number by which a thread is in a call at a lock has a deadline there, which adds so many steps
abbrev pub IsLateFor : Joint → ℕ → ℕ → Type 0
IsLateFor i t n = (c : Call) → row_call_at (state i.rows) (busy_number i t) ≡ Some c
    → row.late_cost (length (state i.rows).calls) c.core ≤ n

-- Each step is paid for by the steps that were left, and with it all that it makes others do. What begins adds a stated
-- number of steps, a deadline at a lock too, and one at a variable none.
pub record StepsArePaidFor : Type 0 where
  pub steps : (t : ℕ) (fair : Bool) (end : Option Ended) (i j : Joint) → IsWhole i → PartsFit i → IsWhole j → PartsFit j
      → IsGone t fair end i j → steps_left j t + 1 ≤ steps_left i t
  pub asks : (t lock : ℕ) (c : LockCall) (i j : Joint) → IsWhole i → PartsFit i → IsWhole j → PartsFit j
      → may_ask i t lock c ≡ true → IsAsked t lock c i j
      → steps_left j t ≤ steps_left i t + row.cost (2 * length i.seats) c
  pub calls : (t v : ℕ) (c : CondvarCall) (i j : Joint) → IsWhole i → PartsFit i → may_call_at i t v c ≡ true
      → IsCalled t v c i j
      → steps_left j t ≤ steps_left i t + weight * vars.cost (length i.seats) c
  pub deadlines : (t n : ℕ) (i j : Joint) → IsWhole i → PartsFit i → IsWhole j → PartsFit j → (seat_at i t).at ≡ None
      → IsLateFor i t n → IsLate t i j
      → steps_left j t ≤ steps_left i t + n
  pub deadlines_at_variables : (t v : ℕ) (i j : Joint) → IsWhole i → PartsFit i → (seat_at i t).at ≡ Some v
      → may_expire i t ≡ true → IsLate t i j → steps_left j t ≤ steps_left i t
  -- where its number can't move at the locks, as where it is in no call there, any other may be stepped from there on
  pub stops : (t u : ℕ) (j : Joint) → PartsFit j → rows.can_move (state j.rows) (stepping_number j t) ≡ false
      → steps_left j u ≤ steps_left j t
  -- where the thread can't move, and no section of a variable shuts it out, any other may be stepped from there on
  pub others : (t u : ℕ) (j : Joint) → IsWhole j → PartsFit j → t < length j.seats → may_go j t ≡ false
      → is_open_at_variables j ≡ false → steps_left j u ≤ steps_left j t

-- At every moment: of n threads, so many at a lock for each of their two numbers, and of each a call at one variable at
-- most.
abbrev pub most_left : ℕ → ℕ
most_left n = 2 * n * most_steps (2 * n) + weight * (n * (n + 13))

abbrev pub StepsAreFew : Type 0
StepsAreFew = (j : Joint) (t : ℕ) → IsWhole j → PartsFit j → steps_left j t ≤ most_left (length j.seats)
