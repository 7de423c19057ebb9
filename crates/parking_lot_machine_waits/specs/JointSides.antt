-- What a machine of locks and condition variables is to another one beside it: who is in a call, which buckets its next
-- step enters, and where a section is open.
use Rattle.std.specs.Prelude.{ℕ, ◌*◌, ◌/◌, ◌==◌, ◌&&◌, ◌||◌, not, nat_lt, if◌then◌else◌, Bool, true, false, List, []}
use Rattle.std.specs.Prelude.{length, map, Option, Some, None}
use Rattle.std.specs.Option.{option_map_or}
use Rattle.parking_lot_protocol_waits.specs.declared.notify_core.NotifyPhase.{NotifyPhase}
use Rattle.parking_lot_protocol_waits.specs.declared.notify_core.NotifyPhase.TheVariants as n
use Rattle.parking_lot_machine_sides.specs.declared.condvar.open_call.Core.{Core}
use Rattle.parking_lot_machine_sides.specs.declared.condvar.open_call.Core.TheVariants as core
use Rattle.parking_lot_machine_sides.specs.declared.condvar.open_call.OpenCall.{OpenCall}
use Rattle.parking_lot_machine_sides.specs.Condvar.Turns.{notify_is_inside, wait_is_inside}
use Rattle.parking_lot_machine_sides.specs.Condvar.Turns as var_turns
use Rattle.parking_lot_machine_calls.specs.declared.open_call.Call.{Call}
use Rattle.parking_lot_machine.specs.Rows.{call_at as row_call_at, state}
use Rattle.parking_lot_machine.specs.Rows as lists
use Rattle.parking_lot_machine.specs.Worlds as of_locks
use Rattle.parking_lot_machine_waits.specs.declared.turn.Turn.{Turn}
use Rattle.parking_lot_machine_waits.specs.declared.turn.Turn.TheVariants as turn
use Rattle.parking_lot_machine_waits.specs.Joint.{Joint, back_number, buckets, busy_number, call_at}
use Rattle.parking_lot_machine_waits.specs.Joint.{enters_at_lock, enters_mutex, enters_var, front_number, is_that}
use Rattle.parking_lot_machine_waits.specs.Joint.{is_open_at_locks, is_open_at_variables, is_var, number, seat_at}
use Rattle.parking_lot_machine_waits.specs.Joint.{thread_of, var_at, waiters_of}
use Rattle.parking_lot_machine_waits.specs.JointMoves.{is_free}
use Rattle.parking_lot_machine_waits.specs.Turns.{turn_of}

-- a thread is in a call
abbrev pub is_busy : Joint → ℕ → Bool
is_busy j t = nat_lt t (length j.seats) && not (is_free j t)

-- The bucket that its next step enters: at a variable, or by one of its numbers at a lock.
abbrev pub turn_enters : Turn → Joint → ℕ → ℕ → OpenCall → Option ℕ
turn_enters turn.Sleeps j v t c = None
turn_enters turn.Acts j v t c = enters_var (buckets j) v c
turn_enters turn.GivesUp j v t c = None
turn_enters turn.Unlocks j v t c = enters_at_lock j (front_number j t)
turn_enters turn.Follows j v t c = enters_at_lock j (back_number j t)
turn_enters turn.ComesBack j v t c = None
turn_enters turn.LocksAgain j v t c = None
turn_enters turn.Locks j v t c = enters_at_lock j (back_number j t)
turn_enters turn.Moves j v t c = None
turn_enters turn.Hears j v t c = None

abbrev pub enters_as : Option OpenCall → Joint → ℕ → ℕ → Option ℕ
enters_as None j v t = None
enters_as (Some c) j v t = turn_enters (turn_of c) j v t c

abbrev pub enters_at : Option ℕ → Joint → ℕ → Option ℕ
enters_at None j t = enters_at_lock j (busy_number j t)
enters_at (Some v) j t = enters_as (call_at j v t) j v t

abbrev pub enters : Joint → ℕ → Option ℕ
enters j t = (if nat_lt t (length j.seats) then enters_at (seat_at j t).at j t else None)

-- A notification enters that of its mutex with it.
abbrev pub turn_beside : Turn → Joint → OpenCall → Option ℕ
turn_beside turn.Acts j c = enters_mutex (buckets j) c
turn_beside x j c = None

abbrev pub beside_as : Option OpenCall → Joint → Option ℕ
beside_as None j = None
beside_as (Some c) j = turn_beside (turn_of c) j c

abbrev pub beside_at : Option ℕ → Joint → ℕ → Option ℕ
beside_at None j t = None
beside_at (Some v) j t = beside_as (call_at j v t) j

abbrev pub enters_beside : Joint → ℕ → Option ℕ
enters_beside j t = (if nat_lt t (length j.seats) then beside_at (seat_at j t).at j t else None)

-- it enters that one
abbrev pub enters_bucket : Joint → ℕ → ℕ → Bool
enters_bucket j t b = is_that (enters_beside j t) b || is_that (enters j t) b

-- a section is open, of a lock or a variable
abbrev pub is_open : Joint → Bool
is_open j = is_open_at_locks j || is_open_at_variables j

-- the call that it is in at a lock
abbrev pub lock_call : Joint → ℕ → Option Call
lock_call j t = if nat_lt t (length j.seats) then row_call_at (state j.rows) (busy_number j t) else None

-- It stands in a variable's section, or has seen that somebody waits there, or is to wake whom it has taken.
abbrev pub notice_owes : NotifyPhase → Bool
notice_owes (n.Enters all word) = true
notice_owes (n.Wakes count) = true
notice_owes p = notify_is_inside p

abbrev pub call_owes : Bool → Core → Bool
call_owes listed (core.Wait k) = wait_is_inside listed k.phase
call_owes listed (core.Notify k) = notice_owes k.phase

abbrev pub owes_at : Option ℕ → Joint → ℕ → Bool
owes_at None j t = false
owes_at (Some v) j t = option_map_or (λ c. call_owes c.listed c.core) (call_at j v t) false

-- it owes by one of its numbers at the locks, or at the variable that it is in a call at
abbrev pub is_indebted : Joint → ℕ → Bool
is_indebted j t =
    nat_lt t (length j.seats)
    && (owes_at (seat_at j t).at j t
    || (of_locks.is_indebted (state j.rows) (number j t false) || of_locks.is_indebted (state j.rows)
    (number j t true)))

-- WHO WAITS UNDER A KEY

-- that of a variable is the first of its two
abbrev pub queue_at : Joint → ℕ → List ℕ
queue_at j key =
    (if is_var j (key / 2) then (if key == 2 * (key / 2) then waiters_of (var_at j (key / 2)) else []) else map
    (thread_of j) (lists.queue_at (state j.rows) key))
