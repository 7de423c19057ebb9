-- What a step at a variable needs at the locks. It is so at every moment, and no step looks.
use Rattle.std.specs.Prelude.{ℕ, ◌&&◌, nat_lt, Bool, true, false, length, Option, Some, None, is_some}
use Rattle.std.specs.List.{list_all}
use Rattle.std.specs.Option.{option_map_or}
use Rattle.parking_lot_machine_sides.specs.declared.condvar.open_call.OpenCall.{OpenCall}
use Rattle.parking_lot_machine_sides.specs.Condvar.Machines.{State as Var}
use Rattle.parking_lot_machine_calls.specs.declared.calls.LockCall.TheVariants as call
use Rattle.parking_lot_machine.specs.Machines as rows
use Rattle.parking_lot_machine.specs.Requeues.{may_rouse_in}
use Rattle.parking_lot_machine.specs.Rows.{call_at as row_call_at, state}
use Rattle.parking_lot_machine_waits.specs.declared.turn.Turn.{Turn}
use Rattle.parking_lot_machine_waits.specs.declared.turn.Turn.TheVariants as turn
use Rattle.parking_lot_machine_waits.specs.Joint.{Joint, back_number, call_at, front_number, lock_of, seat_at, var_at}
use Rattle.parking_lot_machine_waits.specs.Joint.{waiters_of}
use Rattle.parking_lot_machine_waits.specs.Moving.{back_in}
use Rattle.parking_lot_machine_waits.specs.Turns.{is_at_mutex, mutex_of, turn_of}

-- the waiter may be woken to ask for the mutex, or moved into its list
abbrev pub may_move : Joint → ℕ → ℕ → Bool
may_move j lock t = nat_lt t (length j.seats) && may_rouse_in (state j.rows) (back_in j.seats t) lock

abbrev pub may_move_all : Joint → Option Var → Bool
may_move_all j o = is_some o && list_all (may_move j (lock_of o)) (waiters_of o)

-- the number is in a call at a mutex
abbrev pub is_there : Joint → ℕ → Bool
is_there j k = option_map_or (λ c. is_at_mutex c.core) (row_call_at (state j.rows) k) false

-- A wait that leaves the variable's section owns its mutex, or nothing of it; one off the list is in a call there; whom
-- a notification takes are in none.
abbrev pub turn_is_ready : Turn → Joint → ℕ → ℕ → OpenCall → Bool
turn_is_ready turn.GivesUp j t v c = rows.may_begin (state j.rows) (front_number j t) (mutex_of c.call) call.Unlock
turn_is_ready turn.LocksAgain j t v c = rows.may_begin (state j.rows) (back_number j t) (mutex_of c.call) call.Lock
turn_is_ready turn.Follows j t v c = is_there j (back_number j t)
turn_is_ready turn.Moves j t v c = may_move_all j (var_at j v)
turn_is_ready x j t v c = true

abbrev pub call_is_ready : Option OpenCall → Joint → ℕ → ℕ → Bool
call_is_ready None j t v = true
call_is_ready (Some c) j t v = turn_is_ready (turn_of c) j t v c

abbrev pub seat_is_ready : Option ℕ → Joint → ℕ → Bool
seat_is_ready None j t = true
seat_is_ready (Some v) j t = call_is_ready (call_at j v t) j t v

abbrev pub is_ready : Joint → ℕ → Bool
is_ready j t = seat_is_ready (seat_at j t).at j t
