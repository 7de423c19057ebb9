-- What ties waits and mutexes together: which call each of a waiter's two numbers is in at the mutex, and what it owns
-- there.
use Rattle.std.specs.Prelude.{◌≡◌, ◌≢◌, ◌⊎◌, ℕ, ◌*◌, ◌==◌, not, Bool, true, false, length, Option, Some, None}
use Rattle.std.specs.Prelude.{slice_get}
use Rattle.std.specs.Option.{option_map}
use Rattle.parking_lot_protocol.specs.declared.act.CoreAnswer.TheVariants as answer
use Rattle.parking_lot_protocol.specs.declared.mutex_phase.MutexPhase.{MutexPhase}
use Rattle.parking_lot_protocol.specs.declared.mutex_phase.MutexPhase.TheVariants as m
use Rattle.parking_lot_protocol_waits.specs.declared.notify_core.NotifyPhase.{NotifyPhase}
use Rattle.parking_lot_protocol_waits.specs.declared.wait_act.WaitAnswer.{WaitAnswer}
use Rattle.parking_lot_protocol_waits.specs.declared.wait_act.WaitAnswer.TheVariants as end
use Rattle.parking_lot_protocol_waits.specs.declared.wait_core.WaitPhase.{WaitPhase}
use Rattle.parking_lot_protocol_waits.specs.declared.wait_core.WaitPhase.TheVariants as w
use Rattle.parking_lot_machine_sides.specs.declared.condvar.open_call.Core.{Core}
use Rattle.parking_lot_machine_sides.specs.declared.condvar.open_call.Core.TheVariants as core
use Rattle.parking_lot_machine_sides.specs.declared.condvar.open_call.OpenCall.{OpenCall}
use Rattle.parking_lot_machine_sides.specs.Condvar.Machines.{State as Var}
use Rattle.parking_lot_machine_calls.specs.declared.calls.LockKind.TheVariants as kind
use Rattle.parking_lot_machine_calls.specs.declared.open_call.Call.{Call}
use Rattle.parking_lot_machine_calls.specs.declared.seat.Core.{Core as RowCore}
use Rattle.parking_lot_machine_calls.specs.declared.seat.Core.TheVariants as row_core
use Rattle.parking_lot_machine_calls.specs.Beginnings.{excludes, owns_nothing}
use Rattle.parking_lot_machine.specs.Rows.{State, call_at as row_call_at, hold_at, state}
use Rattle.parking_lot_machine_waits.specs.declared.turn.Turn.TheVariants as turn
use Rattle.parking_lot_machine_waits.specs.Joint.{Joint, back_number, call_at, front_number, is_kept, is_open_in}
use Rattle.parking_lot_machine_waits.specs.Joint.{keeps_at, number, seat_at, var_at}
use Rattle.parking_lot_machine_waits.specs.Turns.{mutex_of, notify_turn}

-- WHAT A CALL AT A MUTEX IS FOR

-- A call that asks for the mutex, and ends with owning it.
abbrev pub phase_asks : MutexPhase → Bool
phase_asks (m.Loads a) = true
phase_asks (m.Locks a waiters) = true
phase_asks (m.Spins a) = true
phase_asks (m.Parks a) = true
phase_asks (m.Enters woken) = true
phase_asks (m.Checks woken) = true
phase_asks (m.Retreats woken) = true
phase_asks m.Appends = true
phase_asks m.Rests = true
phase_asks m.Sleeps = true
phase_asks (m.Ends answer.Owned) = true
phase_asks p = false

-- one that gives it up, and ends with owning nothing of it
abbrev pub phase_gives : MutexPhase → Bool
phase_gives (m.Unlocks g) = not g.again
phase_gives (m.Looks g) = not g.again
phase_gives (m.Takes g) = not g.again
phase_gives (m.Stores g taken left) = not g.again
phase_gives (m.Leaves g taken handed) = not g.again
phase_gives (m.Wakes g) = not g.again
phase_gives (m.Finishes g) = not g.again
phase_gives (m.Ends answer.Released) = true
phase_gives p = false

abbrev pub asks_on : RowCore → Bool
asks_on (row_core.Mutex k) = phase_asks k.phase
asks_on k = false

-- the same, or its moment has passed and it is giving up
abbrev pub asks : RowCore → Bool
asks (row_core.Mutex k) = phase_asks k.phase
asks (row_core.Late p) = true
asks k = false

abbrev pub gives : RowCore → Bool
gives (row_core.Mutex k) = phase_gives k.phase
gives k = false

-- A NUMBER AT A MUTEX

-- what one of a thread's numbers is at the mutex that the thread waits with
pub data AtMutex : Type 0 where
  -- in no call, and owning the mutex
  Owns : AtMutex
  -- in no call, and owning nothing of it
  Away : AtMutex
  -- in a call that gives it up
  Gives : AtMutex
  -- in one that asks for it, and may be giving up by its deadline
  Asks : AtMutex
  -- in one that asks for it, and doesn't give up
  AsksOn : AtMutex
  -- no wait stands so
  Never : AtMutex

-- the lock at which a number is in a call
abbrev pub place_of : State → ℕ → Option ℕ
place_of s k = option_map (λ c. c.lock) (row_call_at s k)

-- a number is in a call at that lock, of that sort
pub record IsIn (sort : RowCore → Bool) (s : State) (k m : ℕ) : Type 0 where
  pub call : Call
  pub here : row_call_at s k ≡ Some call
  pub lock : call.lock ≡ m
  pub is : sort call.core ≡ true

abbrev pub IsSo : AtMutex → State → ℕ → ℕ → Type 0
IsSo Owns s k m = (place_of s k ≡ None) × (excludes (hold_at s k m) ≡ true)
IsSo Away s k m = (place_of s k ≡ None) × (owns_nothing (hold_at s k m) ≡ true)
IsSo Gives s k m = IsIn gives s k m
IsSo Asks s k m = IsIn asks s k m
IsSo AsksOn s k m = IsIn asks_on s k m
IsSo Never s k m = ⊥

-- BY WHERE A WAIT STANDS

-- how the two numbers are at the end
abbrev pub front_at_end : WaitAnswer → AtMutex
front_at_end end.WrongMutex = Owns
front_at_end end.Woken = Away
front_at_end end.TimedOut = Away
front_at_end end.WrongLot = Never

abbrev pub back_at_end : WaitAnswer → AtMutex
back_at_end end.WrongMutex = Away
back_at_end end.Woken = Owns
back_at_end end.TimedOut = Owns
back_at_end end.WrongLot = Never

-- the number that gives the mutex up
abbrev pub front_of : WaitPhase → AtMutex
front_of (w.Enters n) = Owns
front_of (w.Checks n) = Owns
front_of w.Retreats = Owns
front_of (w.Appends n) = Owns
front_of (w.Shows n) = Owns
front_of (w.Rests n) = Owns
front_of (w.Unlocks n) = Gives
front_of (w.Sleeps n) = Away
front_of (w.Expires n) = Away
front_of (w.Quits n) = Away
front_of w.Forgets = Away
front_of (w.Leaves true) = Away
front_of (w.Resumes token) = Away
front_of (w.Locks timed_out) = Away
front_of (w.Ends a) = front_at_end a
front_of p = Never

-- One that was taken off the variable's list is at the mutex.
abbrev pub away_or_asks : Bool → AtMutex
away_or_asks true = Away
away_or_asks false = Asks

-- one that was handed the mutex over has it, and else asks for it
abbrev pub woken_by : Bool → AtMutex
woken_by true = Owns
woken_by false = AsksOn

-- the number that sleeps, and locks the mutex again
abbrev pub back_of : Bool → WaitPhase → AtMutex
back_of listed (w.Enters n) = Away
back_of listed (w.Checks n) = Away
back_of listed w.Retreats = Away
back_of listed (w.Appends n) = Away
back_of listed (w.Shows n) = Away
back_of listed (w.Rests n) = Away
back_of listed (w.Unlocks n) = away_or_asks listed
back_of listed (w.Sleeps n) = away_or_asks listed
back_of listed (w.Expires n) = away_or_asks listed
back_of listed (w.Quits n) = away_or_asks listed
back_of listed w.Forgets = Away
back_of listed (w.Leaves true) = Away
back_of listed (w.Resumes token) = woken_by (token.0 == 1)
back_of listed (w.Locks timed_out) = AsksOn
back_of listed (w.Ends a) = back_at_end a
back_of listed p = Never

-- the mutex that a phase names; m where it names none
abbrev pub named : WaitPhase → ℕ → ℕ
named (w.Enters n) m = n
named (w.Checks n) m = n
named (w.Appends n) m = n
named (w.Shows n) m = n
named (w.Rests n) m = n
named (w.Unlocks n) m = n
named (w.Sleeps n) m = n
named (w.Expires n) m = n
named (w.Quits n) m = n
named p m = m

-- THE WHOLE

-- a lock is a plain mutex
pub record IsMutex (j : Joint) (m : ℕ) : Type 0 where
  pub kind : slice_get (state j.rows).kinds m ≡ Some kind.Mutex
  pub plain : var_at j m ≡ None

-- A wait is with a plain mutex, which its phase names, and its two numbers are there as its phase says.
pub record Waits (j : Joint) (t : ℕ) (c : OpenCall) (p : WaitPhase) : Type 0 where
  pub names : named p (mutex_of c.call) ≡ mutex_of c.call
  pub mutex : IsMutex j (mutex_of c.call)
  pub front : IsSo (front_of p) (state j.rows) (front_number j t) (mutex_of c.call)
  pub back : IsSo (back_of c.listed p) (state j.rows) (back_number j t) (mutex_of c.call)

-- One that notifies is in no call at a lock, and doesn't stand before a turn that is no turn.
pub record Notifies (j : Joint) (t : ℕ) (p : NotifyPhase) : Type 0 where
  pub first : row_call_at (state j.rows) (number j t false) ≡ None
  pub second : row_call_at (state j.rows) (number j t true) ≡ None
  pub turns : notify_turn p ≢ turn.Sleeps

abbrev pub Stands : Joint → ℕ → OpenCall → Core → Type 0
Stands j t c (core.Wait k) = Waits j t c k.phase
Stands j t c (core.Notify k) = Notifies j t k.phase

-- In no bucket are sections open both of a lock, at those locks, and of a variable.
abbrev pub Apart : State → Joint → Type 0
Apart s j = (b : ℕ) → (is_open_in s b ≡ false) ⊎ (is_kept j b ≡ false)

pub record IsWhole (j : Joint) : Type 0 where
  -- each thread has two numbers at the locks, and one at each variable
  pub numbers : length (state j.rows).calls ≡ 2 * length j.seats
  pub threads : (v : ℕ) (x : Var) → var_at j v ≡ Some x → length x.calls ≡ length j.seats
  -- whoever is in a call at a variable has its seat there, and stands as it says; and whoever has a seat at one is in a
  -- call there
  pub seated : (v t : ℕ) (c : OpenCall) → call_at j v t ≡ Some c → (seat_at j t).at ≡ Some v
  pub stands : (v t : ℕ) (c : OpenCall) → call_at j v t ≡ Some c → Stands j t c c.core
  pub sits : (v t : ℕ) → (seat_at j t).at ≡ Some v → (c : OpenCall) × (call_at j v t ≡ Some c)
  -- who has no seat is in one call at a lock at most
  pub one : (t : ℕ) → (seat_at j t).at ≡ None → (row_call_at (state j.rows) (number j t false) ≡ None)
      ⊎ (row_call_at (state j.rows) (number j t true) ≡ None)
  -- nobody is in a call at the row of a variable
  pub rows : (k : ℕ) (c : Call) → row_call_at (state j.rows) k ≡ Some c → var_at j c.lock ≡ None
  -- a mutex is owned whole, or not at all
  pub holds : (k m : ℕ) → slice_get (state j.rows).kinds m ≡ Some kind.Mutex
      → (excludes (hold_at (state j.rows) k m) ≡ true) ⊎ (owns_nothing (hold_at (state j.rows) k m) ≡ true)
  -- in the buckets of a variable's section none is open of a lock, or of another variable
  pub sections : Apart (state j.rows) j
  pub alone : (v u b : ℕ) → keeps_at j v b ≡ true → keeps_at j u b ≡ true → v ≡ u
