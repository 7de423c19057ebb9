-- What a machine of locks consists of, and which locks of the rules it shows.
use Rattle.std.specs.Prelude.{ℕ, ◌+◌, ◌*◌, ◌/◌, ◌%◌, ◌==◌, Bool, nat_lt, if◌then◌else◌, List, length, map, filter}
use Rattle.std.specs.Prelude.{Option, Some, None, slice_get}
use Rattle.std.specs.List.{range_with_len}
use Rattle.std.specs.Option.{option_and_then, option_map_or}
use Rattle.parking_lot_core_model.specs.declared.place.Section.{Section}
use Rattle.parking_lot_core_model.specs.Machine.{Machine, Parts, machine, threads_of}
use Rattle.parking_lot_core_model.specs.Machine as lot
use Rattle.parking_lot_rules.specs.Roles.{Idle, Role}
use Rattle.parking_lot_rules.specs.Clauses.{word_of}
use Rattle.parking_lot_rules.specs.Lock.{Lock}
use Rattle.parking_lot_rules.specs.Mutex as mutex
use Rattle.parking_lot_rules.specs.Any.{AnyLock, Rw, Mx}
use Rattle.parking_lot_rules.specs.Family.{Family}
use Rattle.parking_lot_machine_calls.specs.declared.calls.LockKind.{LockKind}
use Rattle.parking_lot_machine_calls.specs.declared.seat.Hold.{Hold}
use Rattle.parking_lot_machine_calls.specs.declared.seat.Hold.TheVariants as hold
use Rattle.parking_lot_machine_calls.specs.declared.open_call.Call.{Call}
use Rattle.parking_lot_machine_calls.specs.Kinds.{Manner, AsMutex, AsRw, manner_of}
use Rattle.parking_lot_machine_calls.specs.declared.seat.Wakeup.{Wakeup}
use Rattle.parking_lot_machine_calls.specs.CallRoles.{mutex_core_role, owned_of, owns_mutex, rw_core_role}

pub record State : Type 0 where
  -- by the number of the lock
  pub kinds : List LockKind
  pub words : List ℕ
  -- thread by thread, what each owns of each lock, but for the lock of the call that it is in
  pub holds : List Hold
  -- by the number of the thread
  pub calls : List (Option Call)
  -- whom threads have taken off a list and are still to wake, oldest first
  pub wakes : List Wakeup
  -- the lists, the threads' places there, and the sections that are open
  pub lot : Machine

-- what is kept of a machine, and the machine that it is
pub record Rows : Type 0 where
  pub kinds : List LockKind
  pub words : List ℕ
  pub holds : List Hold
  pub calls : List (Option Call)
  pub wakes : List Wakeup
  pub lot : Parts

abbrev pub state : Rows → State
state m = record {
  kinds = m.kinds;
  words = m.words;
  holds = m.holds;
  calls = m.calls;
  wakes = m.wakes;
  lot = machine m.lot;
}

abbrev pub word_at : State → ℕ → ℕ
word_at s i = option_map_or (λ w. w) (slice_get s.words i) 0

abbrev pub cell : State → ℕ → ℕ → ℕ
cell s t i = t * length s.kinds + i

-- what a thread owns of a lock; of those beyond the last nobody owns anything
abbrev pub hold_in : List Hold → ℕ → ℕ → ℕ → Hold
hold_in holds locks t i = if nat_lt i locks then option_map_or (λ h. h) (slice_get holds (t * locks + i))
    (hold.Shares 0) else hold.Shares 0

abbrev pub hold_at : State → ℕ → ℕ → Hold
hold_at s t i = hold_in s.holds (length s.kinds) t i

abbrev pub call_at : State → ℕ → Option Call
call_at s t = option_and_then (λ c. c) (slice_get s.calls t)

-- whom a thread has taken and is still to wake, in order
abbrev pub is_by : ℕ → Wakeup → Bool
is_by t w = w.by == t

-- the one that is to be woken
abbrev pub is_for : ℕ → Wakeup → Bool
is_for t w = w.thread == t

abbrev pub taken_by : List Wakeup → ℕ → List ℕ
taken_by wakes t = map (λ w. w.thread) (filter (is_by t) wakes)

-- WHAT A THREAD IS TO A LOCK

abbrev pub rw_role_in : ℕ → List ℕ → Hold → Option Call → Role
rw_role_in i us h None = record { owns = owned_of h; does = Idle }
rw_role_in i us h (Some c) = if c.lock == i then rw_core_role c.others c.spot us c.core else
    record { owns = owned_of h; does = Idle }

abbrev pub mutex_role_in : ℕ → List ℕ → Hold → Option Call → mutex.Role
mutex_role_in i us h None = record { owns = owns_mutex h; does = mutex.Idle }
mutex_role_in i us h (Some c) = if c.lock == i then mutex_core_role c.spot us c.core else
    record { owns = owns_mutex h; does = mutex.Idle }

abbrev pub rw_role_at : State → ℕ → ℕ → Role
rw_role_at s i t = rw_role_in i (taken_by s.wakes t) (hold_at s t i) (call_at s t)

abbrev pub mutex_role_at : State → ℕ → ℕ → mutex.Role
mutex_role_at s i t = mutex_role_in i (taken_by s.wakes t) (hold_at s t i) (call_at s t)

-- of all threads
abbrev pub everybody : {R : Type 0} → (ℕ → R) → State → List R
everybody f s = map f (range_with_len 0 (length s.calls))

-- THE LOCKS

abbrev pub first_key : ℕ → ℕ
first_key i = 2 * i

abbrev pub second_key : ℕ → ℕ
second_key i = 2 * i + 1

abbrev pub queue_at : State → ℕ → List ℕ
queue_at s key = threads_of (s.lot.queues key)

abbrev pub mutex_word_of : ℕ → mutex.Word
mutex_word_of n = record { locked = n % 2; parked = n / 2 % 2 }

abbrev pub rw_lock_at : State → ℕ → Lock
rw_lock_at s i = record {
  word = word_of (word_at s i);
  roles = everybody (rw_role_at s i) s;
  first = queue_at s (first_key i);
  second = queue_at s (second_key i);
}

abbrev pub mutex_at : State → ℕ → mutex.Mutex
mutex_at s i = record {
  word = mutex_word_of (word_at s i);
  roles = everybody (mutex_role_at s i) s;
  queue = queue_at s (first_key i);
}

-- beyond the last number there are locks too, where nobody is
abbrev pub lock_as : Option Manner → State → ℕ → AnyLock
lock_as (Some AsMutex) s i = Mx (mutex_at s i)
lock_as (Some AsRw) s i = Rw (rw_lock_at s i)
lock_as None s i = Rw (rw_lock_at s i)

abbrev pub any_lock : Option LockKind → State → ℕ → AnyLock
any_lock k s i = lock_as (manner_of k) s i

abbrev pub lock_at : State → ℕ → AnyLock
lock_at s i = any_lock (slice_get s.kinds i) s i

-- The section that is open in the bucket of a key, where one is.
abbrev pub open_at : State → ℕ → Option Section
open_at s key = lot.open_at s.lot key

-- who has entered the bucket of a key
abbrev pub entered_by : State → ℕ → Option ℕ
entered_by s key = lot.entered_by s.lot key

-- the bucket of a key, and who has entered a bucket
abbrev pub bucket : State → ℕ → ℕ
bucket s key = lot.bucket_of s.lot key

abbrev pub entered_in : State → ℕ → Option ℕ
entered_in s b = option_and_then (λ section. section.thread) (s.lot.sections b)

-- The locks of the rules.
abbrev pub family : State → Family AnyLock
family s = record { locks = lock_at s; entered = entered_in s }
