-- What a machine of locks and condition variables consists of, and which steps it makes.
use Rattle.std.specs.Prelude.{ℕ, zero, suc, ◌+◌, ◌-◌, ◌*◌, ◌%◌, ◌==◌, ◌&&◌, ◌||◌, not, nat_lt, Bool, true, false}
use Rattle.std.specs.Prelude.{if◌then◌else◌, List, [], length}
use Rattle.std.specs.Prelude.{Option, Some, None, is_some, is_none, slice_get}
use Rattle.std.specs.List.{list_any}
use Rattle.std.specs.Option.{option_and_then, option_map, option_map_or, option_or, unwrap_or}
use Rattle.parking_lot_core_model.specs.Buckets.{any_open}
use Rattle.parking_lot_protocol.specs.declared.act.Act.{Act}
use Rattle.parking_lot_protocol.specs.declared.act.Act.TheVariants as act
use Rattle.parking_lot_machine_sides.specs.declared.condvar.outside.Outside.{Outside}
use Rattle.parking_lot_machine_sides.specs.declared.condvar.open_call.OpenCall.{OpenCall}
use Rattle.parking_lot_machine_sides.specs.Condvar.Machines as var
use Rattle.parking_lot_machine_sides.specs.Condvar.Machines.{State as Var}
use Rattle.parking_lot_machine_sides.specs.Condvar.Outsides.{can_be_told}
use Rattle.parking_lot_machine_sides.specs.Condvar.Turns as var_turns
use Rattle.parking_lot_machine_calls.specs.declared.calls.OwnMode.{OwnMode}
use Rattle.parking_lot_machine_calls.specs.declared.open_call.Call.{Call}
use Rattle.parking_lot_machine_calls.specs.declared.seat.Core.{Core}
use Rattle.parking_lot_machine_calls.specs.declared.seat.Core.TheVariants as core
use Rattle.parking_lot_machine_calls.specs.declared.seat.LatePhase.TheVariants as late
use Rattle.parking_lot_machine_calls.specs.Beginnings.{excludes}
use Rattle.parking_lot_machine_calls.specs.CallActs.{key_of}
use Rattle.parking_lot_machine_calls.specs.LateCalls.{late_key, late_rw_comes}
use Rattle.parking_lot_machine.specs.Machines as rows
use Rattle.parking_lot_machine.specs.Rows.{Rows, State, state}
use Rattle.parking_lot_machine.specs.Rows as row
use Rattle.parking_lot_machine_calls.specs.Stances.{core_act}
use Rattle.parking_lot_machine.specs.Worlds.{mode_in}
use Rattle.parking_lot_machine_waits.specs.declared.seat.Seat.{Seat}

pub record Joint : Type 0 where
  -- The locks. Of n threads, thread t has the numbers t and n + t there.
  pub rows : Rows
  -- by the number of the lock: the condition variables
  pub vars : List (Option Var)
  -- by the number of the thread
  pub seats : List Seat

-- PARTS

abbrev pub var_in : List (Option Var) → ℕ → Option Var
var_in vars v = option_and_then (λ x. x) (slice_get vars v)

abbrev pub var_at : Joint → ℕ → Option Var
var_at j v = var_in j.vars v

abbrev pub is_var : Joint → ℕ → Bool
is_var j v = is_some (var_at j v)

abbrev pub nowhere : Seat
nowhere = record { at = None; second = false }

abbrev pub seat_at : Joint → ℕ → Seat
seat_at j t = unwrap_or (slice_get j.seats t) nowhere

-- the thread's first number, or its second
abbrev pub number : Joint → ℕ → Bool → ℕ
number j t second = (if second then length j.seats + t else t)

-- the number that a wait of the thread sleeps with and locks its mutex again, and the one that gives it up
abbrev pub back_number : Joint → ℕ → ℕ
back_number j t = number j t (seat_at j t).second

abbrev pub front_number : Joint → ℕ → ℕ
front_number j t = number j t (not (seat_at j t).second)

-- whether it has the lock by its second number
abbrev pub has_by_second : Joint → ℕ → ℕ → Bool
has_by_second j t lock = excludes (row.hold_at (state j.rows) (number j t true) lock)

-- the number by which it asks, and by which it gives up
abbrev pub asking_number : Joint → ℕ → ℕ → ℕ
asking_number j t lock = number j t (has_by_second j t lock)

-- the number by which it is in a call at a lock
abbrev pub busy_by : Option Call → ℕ → ℕ → ℕ
busy_by (Some c) first second = first
busy_by None first second = second

abbrev pub busy_number : Joint → ℕ → ℕ
busy_number j t = busy_by (row.call_at (state j.rows) t) t (number j t true)

abbrev pub is_idle : Joint → ℕ → Bool
is_idle j t = is_none (row.call_at (state j.rows) t) && is_none (row.call_at (state j.rows) (number j t true))

-- the call that it is in at a condition variable
abbrev pub call_in : Option Var → ℕ → Option OpenCall
call_in None t = None
call_in (Some x) t = var.call_at x t

abbrev pub call_at : Joint → ℕ → ℕ → Option OpenCall
call_at j v t = call_in (var_at j v) t

-- SECTIONS

abbrev pub is_entered : Option Var → Bool
is_entered x = option_map_or (λ s. is_some s.inside) x false

-- a section of some variable is open
abbrev pub is_open_at_variables : Joint → Bool
is_open_at_variables j = list_any is_entered j.vars

-- a section of some lock is open, in any bucket
abbrev pub any_section : State → Bool
any_section s = any_open s.lot.sections s.lot.buckets

abbrev pub is_open_at_locks : Joint → Bool
is_open_at_locks j = any_section (state j.rows)

-- it is that one
abbrev pub is_that : Option ℕ → ℕ → Bool
is_that None b = false
is_that (Some a) b = b == a

-- How many buckets there are, that of the first key of a lock, and where a section of a lock is open.
abbrev pub buckets : Joint → ℕ
buckets j = (state j.rows).lot.buckets

abbrev pub bucket_in : ℕ → ℕ → ℕ
bucket_in m lock = 2 * lock % m

abbrev pub is_open_in : State → ℕ → Bool
is_open_in s b = is_some (s.lot.sections b)

-- Who is in the section of variable v keeps the bucket of its key, and one that notifies that of the mutex too.
abbrev pub keeps : ℕ → ℕ → Option Var → ℕ → Bool
keeps m v None b = false
keeps m v (Some x) b = is_some x.inside && (is_that (Some (bucket_in m v)) b
    || is_that (option_map (bucket_in m) x.beside) b)

abbrev pub keeps_at : Joint → ℕ → ℕ → Bool
keeps_at j v b = keeps (buckets j) v (var_at j v) b

-- one of the first n variables keeps a bucket
abbrev pub any_keeps : ℕ → List (Option Var) → ℕ → ℕ → Bool
any_keeps m vars b zero = false
any_keeps m vars b (suc v) = keeps m v (var_in vars v) b || any_keeps m vars b v

abbrev pub is_kept : Joint → ℕ → Bool
is_kept j b = any_keeps (buckets j) j.vars b (length j.vars)

-- a section is open in that bucket, of a lock or a variable
abbrev pub is_shut : Joint → ℕ → Bool
is_shut j b = is_open_in (state j.rows) b || is_kept j b

-- The bucket of the section that a call's next act at a lock enters, of so many. One whose moment has passed comes back
-- into that of its list.
abbrev pub act_bucket : ℕ → Call → Act → Option ℕ
act_bucket m c (act.Enter k) = Some (key_of c k % m)
act_bucket m c other = None

abbrev pub late_bucket : ℕ → Call → Bool → Option ℕ
late_bucket m c true = Some (late_key c % m)
late_bucket m c false = None

abbrev pub core_enters : ℕ → Call → Core → Option ℕ
core_enters m c (core.Mutex k) = act_bucket m c (core_act (core.Mutex k))
core_enters m c (core.Rw k) = act_bucket m c (core_act (core.Rw k))
core_enters m c (core.Upgrade k) = act_bucket m c (core_act (core.Upgrade k))
core_enters m c (core.Late late.Expires) = late_bucket m c true
core_enters m c (core.Late late.Quits) = None
core_enters m c (core.Late late.Masks) = None
core_enters m c (core.Late late.Leaves) = None
core_enters m c (core.Late late.GivesUp) = None
core_enters m c (core.Late (late.WasTaken by handed)) = None
core_enters m c (core.LateRw p) = late_bucket m c (late_rw_comes p)

abbrev pub call_enters : ℕ → Call → Option ℕ
call_enters m c = core_enters m c c.core

abbrev pub enters_at_lock : Joint → ℕ → Option ℕ
enters_at_lock j k = option_and_then (call_enters (buckets j)) (row.call_at (state j.rows) k)

-- WHICH STEPS ARE POSSIBLE

-- a section of a variable keeps a step out that enters that bucket
abbrev pub keeps_out : Joint → Option ℕ → Bool
keeps_out j o = option_map_or (is_kept j) o false

-- number k can make its step at a lock: it enters no bucket that a section is open in, of a lock or a variable
abbrev pub row_goes : Joint → ℕ → Bool
row_goes j k = rows.can_move (state j.rows) k && not (keeps_out j (enters_at_lock j k))

-- thread t can make its own step at a variable
abbrev pub var_acts : Option Var → ℕ → Bool
var_acts None t = false
var_acts (Some x) t = var.can_step x t

-- The buckets that it enters with it: that of the variable, and where it notifies that of the mutex.
abbrev pub enters_var : ℕ → ℕ → OpenCall → Option ℕ
enters_var m v c = (if var_turns.enters c then Some (bucket_in m v) else None)

abbrev pub enters_mutex : ℕ → OpenCall → Option ℕ
enters_mutex m c = option_map (bucket_in m) (var_turns.enters_beside c)

-- a section is open there
abbrev pub shuts_out : Joint → Option ℕ → Bool
shuts_out j o = option_map_or (is_shut j) o false

-- and it enters both at once, where no section is open in either
abbrev pub var_goes : Joint → ℕ → ℕ → OpenCall → Option Var → Bool
var_goes j v t c x =
    var_acts x t && not (shuts_out j (enters_var (buckets j) v c) || shuts_out j (enters_mutex (buckets j) c))

abbrev pub var_hears : Option Var → ℕ → Outside → Bool
var_hears None t seen = false
var_hears (Some x) t seen = can_be_told x t seen

-- the mutex that is shown, where one is, and who waits
abbrev pub lock_of : Option Var → ℕ
lock_of None = 0
lock_of (Some x) = x.word - 1

abbrev pub waiters_of : Option Var → List ℕ
waiters_of None = []
waiters_of (Some x) = x.queue

-- WHAT IS SEEN

-- the word of a variable, or of a lock
abbrev pub word_of : Option Var → ℕ → ℕ
word_of None other = other
word_of (Some x) other = x.word

abbrev pub word_at : Joint → ℕ → ℕ
word_at j lock = word_of (var_at j lock) (row.word_at (state j.rows) lock)

-- how a thread owns a lock, by one of its numbers
abbrev pub mode_at : Joint → ℕ → ℕ → Option OwnMode
mode_at j t lock =
    (if nat_lt t (length j.seats) then option_or (mode_in (row.lock_at (state j.rows) lock) t)
    (mode_in (row.lock_at (state j.rows) lock) (number j t true)) else None)

-- the thread of a number
abbrev pub thread_of : Joint → ℕ → ℕ
thread_of j k = (if nat_lt k (length j.seats) then k else k - length j.seats)
