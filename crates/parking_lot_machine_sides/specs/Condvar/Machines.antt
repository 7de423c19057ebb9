-- What a machine of a condition variable consists of, and which condition variable of the rules it shows.
use Rattle.std.specs.Prelude.{ℕ, ◌-◌, ◌^◌, ◌==◌, ◌&&◌, ◌||◌, nat_lt, is_none, Bool, true, false, not, List, [], length}
use Rattle.std.specs.Prelude.{map, replicate, Option, Some, None, slice_get}
use Rattle.std.specs.Option.{option_and_then, option_map_or}
use Rattle.parking_lot_rules.specs.Variable as rules
use Rattle.parking_lot_protocol_waits.specs.WaitRules as waits
use Rattle.parking_lot_protocol_waits.specs.WaitRules.{WaiterPosition}
use Rattle.parking_lot_protocol_waits.specs.NotifyRules as notifies
use Rattle.parking_lot_machine_sides.specs.declared.condvar.calls.CondvarCall.{CondvarCall}
use Rattle.parking_lot_machine_sides.specs.declared.condvar.calls.CondvarCall.TheVariants.{Wait, WaitUntil}
use Rattle.parking_lot_machine_sides.specs.declared.condvar.open_call.Core.{Core}
use Rattle.parking_lot_machine_sides.specs.declared.condvar.open_call.Core.TheVariants as core
use Rattle.parking_lot_machine_sides.specs.Condvar.Calls.{OpenCall}
use Rattle.parking_lot_machine_sides.specs.Condvar.Turns.{is_own, enters, takes_by}

pub record State : Type 0 where
  pub word : ℕ
  -- by the number of the thread
  pub calls : List (Option OpenCall)
  -- who waits, oldest first
  pub queue : List ℕ
  -- who is in the section, and the mutex whose bucket it has entered too, as a notification does
  pub inside : Option ℕ
  pub beside : Option ℕ

abbrev pub call_in : List (Option OpenCall) → ℕ → Option OpenCall
call_in calls t = option_and_then (λ c. c) (slice_get calls t)

abbrev pub call_at : State → ℕ → Option OpenCall
call_at s t = call_in s.calls t

-- WHAT A THREAD IS TO THE VARIABLE

abbrev pub spot_of : Bool → WaiterPosition
spot_of true = waits.Listed
spot_of false = waits.Gone

abbrev pub phase_by : Bool → Core → rules.Phase
phase_by listed (core.Wait k) = waits.does (spot_of listed) k.phase
phase_by listed (core.Notify k) = notifies.does k.phase

abbrev pub phase_of : OpenCall → rules.Phase
phase_of c = phase_by c.listed c.core

abbrev pub phase_in : Option OpenCall → rules.Phase
phase_in None = rules.Idle
phase_in (Some c) = phase_of c

abbrev pub variable : State → rules.Variable
variable s = record { word = s.word; phases = map phase_in s.calls; queue = s.queue }

-- WHAT IS POSSIBLE

-- whether anybody waits
abbrev pub is_left : List ℕ → Bool
is_left queue = nat_lt 0 (length queue)

abbrev pub may_step : Option ℕ → OpenCall → Bool
may_step inside c = is_own c && (not (enters c) || is_none inside)

-- its next act is its own, and can be made
abbrev pub can_step : State → ℕ → Bool
can_step s t = option_map_or (may_step s.inside) (call_at s t) false

abbrev pub may_take : List ℕ → OpenCall → Bool
may_take queue c = takes_by (c.taken == 0) c.core && is_left queue

-- it is to take the first that waits
abbrev pub can_take : State → ℕ → Bool
can_take s t = option_map_or (may_take s.queue) (call_at s t) false

-- the mutex has a number that can be shown
abbrev pub has_number : CondvarCall → Bool
has_number (Wait mutex) = nat_lt mutex (2 ^ 64 - 1)
has_number (WaitUntil mutex) = nat_lt mutex (2 ^ 64 - 1)
has_number call = true

abbrev pub may_begin : State → ℕ → CondvarCall → Bool
may_begin s t call = nat_lt t (length s.calls) && (is_none (call_at s t) && has_number call)

-- nobody is in a call
abbrev pub at_rest : ℕ → State
at_rest threads = record { word = 0; calls = replicate threads None; queue = []; inside = None; beside = None }
