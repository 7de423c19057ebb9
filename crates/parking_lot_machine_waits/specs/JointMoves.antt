-- Which calls a thread may begin, and which steps it may make.
use Rattle.std.specs.Prelude.{ℕ, ◌&&◌, ◌||◌, not, nat_lt, Bool, true, false, length, Option, Some, None, is_none}
use Rattle.std.specs.Prelude.{slice_get}
use Rattle.parking_lot_machine_sides.specs.declared.condvar.calls.CondvarCall.{CondvarCall}
use Rattle.parking_lot_machine_sides.specs.declared.condvar.outside.Outside.TheVariants as outside
use Rattle.parking_lot_machine_sides.specs.declared.condvar.open_call.OpenCall.{OpenCall}
use Rattle.parking_lot_machine_sides.specs.Condvar.Machines as var
use Rattle.parking_lot_machine_sides.specs.Condvar.Machines.{State as Var}
use Rattle.parking_lot_machine_calls.specs.declared.calls.LockCall.{LockCall}
use Rattle.parking_lot_machine_calls.specs.declared.calls.LockCall.TheVariants as call
use Rattle.parking_lot_machine_calls.specs.declared.calls.LockKind.{LockKind}
use Rattle.parking_lot_machine_calls.specs.declared.calls.LockKind.TheVariants as kind
use Rattle.parking_lot_machine.specs.Machines as rows
use Rattle.parking_lot_machine.specs.Rows.{state}
use Rattle.parking_lot_machine_waits.specs.declared.turn.Turn.{Turn}
use Rattle.parking_lot_machine_waits.specs.declared.turn.Turn.TheVariants as turn
use Rattle.parking_lot_machine_waits.specs.Joint.{Joint, asking_number, back_number, busy_number, call_at}
use Rattle.parking_lot_machine_waits.specs.Joint.{front_number}
use Rattle.parking_lot_machine_waits.specs.Joint.{is_idle, is_var, row_goes, seat_at, var_at, var_goes, var_hears}
use Rattle.parking_lot_machine_waits.specs.Turns.{is_wait, mutex_of, turn_of}

-- whether a thread is in no call
abbrev pub is_free : Joint → ℕ → Bool
is_free j t = is_none (seat_at j t).at && is_idle j t

-- A thread may begin a call at a lock: it is in none, the lock is no variable, and by the number that has it, or by its
-- first, it may ask so.
abbrev pub may_ask : Joint → ℕ → ℕ → LockCall → Bool
may_ask j t lock c = nat_lt t (length j.seats)
    && (is_free j t && (not (is_var j lock) && rows.may_begin (state j.rows) (asking_number j t lock) lock c))

abbrev pub is_mutex : Option LockKind → Bool
is_mutex (Some kind.Mutex) = true
is_mutex o = false

-- the lock is a mutex that the thread owns by one of its numbers
abbrev pub has_mutex : Joint → ℕ → ℕ → Bool
has_mutex j t lock =
    is_mutex (slice_get (state j.rows).kinds lock)
    && (not (is_var j lock) && rows.may_begin (state j.rows) (asking_number j t lock) lock call.Unlock)

-- it may begin that call at that variable
abbrev pub may_call : Option Var → ℕ → CondvarCall → Bool
may_call None t c = false
may_call (Some x) t c = var.may_begin x t c

-- A thread may begin a call at a variable: it is in none, and a wait is with a mutex that it owns.
abbrev pub may_call_at : Joint → ℕ → ℕ → CondvarCall → Bool
may_call_at j t v c = nat_lt t (length j.seats)
    && (is_free j t && (may_call (var_at j v) t c && (not (is_wait c) || has_mutex j t (mutex_of c))))

-- STEPS

-- A thread's turn can be taken: it doesn't sleep, and enters no section that one which is open keeps out.
abbrev pub may_turn : Turn → Joint → ℕ → ℕ → OpenCall → Bool
may_turn turn.Sleeps j t v c = false
may_turn turn.Acts j t v c = var_goes j v t c (var_at j v)
may_turn turn.GivesUp j t v c = var_goes j v t c (var_at j v)
may_turn turn.LocksAgain j t v c = var_goes j v t c (var_at j v)
may_turn turn.Unlocks j t v c = row_goes j (front_number j t)
may_turn turn.Follows j t v c = row_goes j (back_number j t)
may_turn turn.Locks j t v c = row_goes j (back_number j t)
may_turn turn.ComesBack j t v c = true
may_turn turn.Hears j t v c = true
may_turn turn.Moves j t v c = true

abbrev pub may_go_as : Option OpenCall → Joint → ℕ → ℕ → Bool
may_go_as None j t v = false
may_go_as (Some c) j t v = may_turn (turn_of c) j t v c

abbrev pub may_go_at : Option ℕ → Joint → ℕ → Bool
may_go_at None j t = row_goes j (busy_number j t)
may_go_at (Some v) j t = may_go_as (call_at j v t) j t v

-- A thread may make a step.
abbrev pub may_go : Joint → ℕ → Bool
may_go j t = nat_lt t (length j.seats) && may_go_at (seat_at j t).at j t

-- One that sleeps in the variable's list, or at its mutex: in a list there, or taken off it and not woken yet.
abbrev pub sleeps_on : OpenCall → Joint → ℕ → Bool
sleeps_on c j t = c.listed || rows.may_expire (state j.rows) (back_number j t)

abbrev pub may_expire_as : Option OpenCall → Joint → ℕ → ℕ → Bool
may_expire_as None j t v = false
may_expire_as (Some c) j t v = sleeps_on c j t && var_hears (var_at j v) t outside.Expired

abbrev pub may_expire_at : Option ℕ → Joint → ℕ → Bool
may_expire_at None j t = rows.may_expire (state j.rows) (busy_number j t)
may_expire_at (Some v) j t = may_expire_as (call_at j v t) j t v

-- A thread's deadline may come.
abbrev pub may_expire : Joint → ℕ → Bool
may_expire j t = nat_lt t (length j.seats) && may_expire_at (seat_at j t).at j t
