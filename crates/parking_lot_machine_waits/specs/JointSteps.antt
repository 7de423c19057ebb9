-- What each step leaves of a machine of locks and condition variables.
use Rattle.std.specs.Prelude.{◌≡◌, ℕ, ◌%◌, ◌==◌, ◌&&◌, not, Bool, true, false, List, [], length, take, Option, Some}
use Rattle.std.specs.Prelude.{None, slice_set}
use Rattle.std.specs.Option.{option_map}
use Rattle.parking_lot_protocol.specs.declared.act.CoreAnswer.{CoreAnswer}
use Rattle.parking_lot_protocol.specs.declared.act.CoreAnswer.TheVariants as answer
use Rattle.parking_lot_machine_sides.specs.declared.condvar.calls.CondvarCall.{CondvarCall}
use Rattle.parking_lot_machine_sides.specs.declared.condvar.calls.CondvarReply.{CondvarReply}
use Rattle.parking_lot_machine_sides.specs.declared.condvar.outside.Outside.{Outside}
use Rattle.parking_lot_machine_sides.specs.declared.condvar.outside.Outside.TheVariants as outside
use Rattle.parking_lot_machine_sides.specs.declared.condvar.open_call.OpenCall.{OpenCall}
use Rattle.parking_lot_machine_sides.specs.Condvar.Machines as var
use Rattle.parking_lot_machine_sides.specs.Condvar.Machines.{State as Var}
use Rattle.parking_lot_machine_sides.specs.Condvar.Fitting.{Fits}
use Rattle.parking_lot_machine_sides.specs.Condvar.MachineLaws.{IsSoundMachine}
use Rattle.parking_lot_machine_sides.specs.Condvar.Steps as vars
use Rattle.parking_lot_machine_calls.specs.declared.calls.LockCall.{LockCall}
use Rattle.parking_lot_machine_calls.specs.declared.calls.LockCall.TheVariants as call
use Rattle.parking_lot_machine_calls.specs.declared.open_call.Call.{Call}
use Rattle.parking_lot_machine.specs.Machines as rows
use Rattle.parking_lot_machine.specs.Rows.{State, call_at as row_call_at, state, word_at}
use Rattle.parking_lot_machine_waits.specs.declared.ended.Ended.{Ended}
use Rattle.parking_lot_machine_waits.specs.declared.ended.Ended.TheVariants as ended
use Rattle.parking_lot_machine_waits.specs.declared.seat.Seat.{Seat}
use Rattle.parking_lot_machine_waits.specs.declared.turn.Turn.{Turn}
use Rattle.parking_lot_machine_waits.specs.declared.turn.Turn.TheVariants as turn
use Rattle.parking_lot_machine_waits.specs.Joint.{Joint, asking_number, back_number, busy_number, call_at, front_number}
use Rattle.parking_lot_machine_waits.specs.Joint.{has_by_second, lock_of, nowhere, seat_at, var_at, var_in}
use Rattle.parking_lot_machine_waits.specs.Moving.{AreMovedAs, MayMoveAs, NotifiesIn, taken_of}
use Rattle.parking_lot_machine_waits.specs.Turns.{handed, is_late, is_wait, mutex_of, retried, turn_of, wakes_with}

-- WHAT BEGINS

-- A call at a lock begins: it is the beginning of the number that asks, and nothing else changes.
pub record IsAsked (t lock : ℕ) (c : LockCall) (i j : Joint) : Type 0 where
  pub begins : rows.IsBegun (asking_number i t lock) lock c (state i.rows) (state j.rows)
  pub vars : j.vars ≡ i.vars
  pub seats : j.seats ≡ i.seats

-- with which number a call at a variable waits there: a wait with the one that doesn't own its mutex
abbrev pub waits_by_second : Joint → ℕ → CondvarCall → Bool
waits_by_second j t c = is_wait c && not (has_by_second j t (mutex_of c))

abbrev pub BeginsIn : ℕ → CondvarCall → Option Var → Option Var → Type 0
BeginsIn t c (Some x) (Some y) = vars.IsBegun t c x y
BeginsIn t c None y = ⊥
BeginsIn t c (Some x) None = ⊥

-- A call at a variable begins there, and nothing else changes.
pub record IsCalled (t v : ℕ) (c : CondvarCall) (i j : Joint) : Type 0 where
  pub begins : (y : Option Var) × BeginsIn t c (var_at i v) y × (j.vars ≡ slice_set i.vars v y)
  pub rows : j.rows ≡ i.rows
  pub seats : j.seats ≡ slice_set i.seats t (record { at = Some v; second = waits_by_second i t c })

-- PARTS OF STEPS

-- a call that is over leaves its seat
abbrev pub freed : ℕ → Option CondvarReply → List Seat → List Seat
freed t None seats = seats
freed t (Some r) seats = slice_set seats t nowhere

abbrev pub is_owned : CoreAnswer → Bool
is_owned answer.Owned = true
is_owned answer.Refused = false
is_owned answer.Released = false

-- an act of thread t at a variable, and what it is told there of what was done elsewhere
abbrev pub ActsIn : ℕ → Option CondvarReply → Option Var → Option Var → Type 0
ActsIn t reply (Some x) (Some y) = vars.IsStepped t reply x y
ActsIn t reply None y = ⊥
ActsIn t reply (Some x) None = ⊥

abbrev pub HearsIn : ℕ → Outside → Option Var → Option Var → Type 0
HearsIn t seen (Some x) (Some y) = vars.IsTold t seen x y
HearsIn t seen None y = ⊥
HearsIn t seen (Some x) None = ⊥

-- the same at variable v of the machine, where no other changes
abbrev pub ActsAt : ℕ → ℕ → Option CondvarReply → Joint → Joint → Type 0
ActsAt t v reply i j = (y : Option Var) × ActsIn t reply (var_at i v) y × (j.vars ≡ slice_set i.vars v y)

abbrev pub HearsAt : ℕ → ℕ → Outside → Joint → Joint → Type 0
HearsAt t v seen i j = (y : Option Var) × HearsIn t seen (var_at i v) y × (j.vars ≡ slice_set i.vars v y)

-- where its call at the mutex is over
abbrev pub HearsOf : Option CoreAnswer → ℕ → ℕ → Joint → Joint → Type 0
HearsOf None t v i j = j.vars ≡ i.vars
HearsOf (Some a) t v i j = HearsAt t v outside.Made i j

-- A waiter that was taken off the list has made a step of its call c at the mutex. The first that it makes awake says
-- that it was woken; where the call ends it owns the mutex, or it has taken itself off the mutex's list and asks again.
abbrev pub FollowsAs : Bool → Option CoreAnswer → ℕ → ℕ → ℕ → OpenCall → Call → Joint → State → Joint → Type 0
FollowsAs true None t k v c d i mid j = (state j.rows ≡ mid) × (j.vars ≡ i.vars)
FollowsAs false None t k v c d i mid j = (state j.rows ≡ mid) × HearsAt t v (wakes_with c.core retried) i j
FollowsAs late (Some answer.Owned) t k v c d i mid j = (state j.rows ≡ mid) × HearsAt t v (wakes_with c.core handed) i j
FollowsAs late (Some a) t k v c d i mid j = rows.IsBegun k d.lock call.Lock mid (state j.rows)
    × HearsAt t v (wakes_with c.core retried) i j

pub record IsFollowing (t v k : ℕ) (fair : Bool) (c : OpenCall) (i j : Joint) : Type 0 where
  pub d : Call
  pub there : row_call_at (state i.rows) k ≡ Some d
  pub answer : Option CoreAnswer
  pub mid : State
  pub step : rows.IsStepped k fair answer (state i.rows) mid
  pub onward : FollowsAs (is_late d.core) answer t k v c d i mid j

-- One whose moment had passed before it was moved comes back into the mutex's list, where it sleeps there still.
abbrev pub ComesBackIf : Bool → ℕ → Joint → Joint → Type 0
ComesBackIf true k i j = rows.IsExpired k (state i.rows) (state j.rows)
ComesBackIf false k i j = j.rows ≡ i.rows

-- the waiters that a notification takes, and whether its mutex is locked
abbrev pub takes_now : CondvarCall → Option Var → List ℕ
takes_now c None = []
takes_now c (Some x) = take (taken_of c (length x.queue)) x.queue

abbrev pub is_locked : Joint → ℕ → Bool
is_locked i lock = word_at (state i.rows) lock % 2 == 1

abbrev pub MovesIn : Option Var → Bool → List Seat → ℕ → List ℕ → State → State → Type 0
MovesIn None locked seats lock ws s u = ⊥
MovesIn (Some x) locked seats lock ws s u = AreMovedAs locked seats x lock ws s u

-- what holds of a variable at every moment
abbrev pub KnownIn : Option Var → Type 0
KnownIn None = Unit {0}
KnownIn (Some x) = Fits x × IsSoundMachine x

abbrev pub AreKnown : List (Option Var) → Type 0
AreKnown vars = (v : ℕ) → KnownIn (var_in vars v)

abbrev pub MayMoveIn : Option Var → Bool → List Seat → ℕ → List ℕ → State → Type 0
MayMoveIn None locked seats lock ws s = ⊥
MayMoveIn (Some x) locked seats lock ws s = MayMoveAs locked seats x lock ws s

-- A notification takes waiters off the variable's list, and moves them, in one step.
pub record IsMoving (t v : ℕ) (c : OpenCall) (i j : Joint) : Type 0 where
  pub moves : MovesIn (var_at i v) (is_locked i (lock_of (var_at i v))) i.seats (lock_of (var_at i v))
      (takes_now c.call (var_at i v)) (state i.rows) (state j.rows)
  pub notifies : (y : Option Var) × NotifiesIn t (is_locked i (lock_of (var_at i v)))
      (length (takes_now c.call (var_at i v))) (var_at i v) y × (j.vars ≡ slice_set i.vars v y)

-- THE STEPS

-- what is left behind thread t's turn at variable v, in its call c there; all of the machine but its seat
abbrev pub Turned : Turn → ℕ → ℕ → Bool → OpenCall → Option CondvarReply → Joint → Joint → Type 0
Turned turn.Sleeps t v fair c reply i j = ⊥
Turned turn.Acts t v fair c reply i j = ActsAt t v reply i j × (j.rows ≡ i.rows)
Turned turn.GivesUp t v fair c reply i j = ActsAt t v reply i j × rows.IsBegun (front_number i t) (mutex_of c.call)
    call.Unlock (state i.rows) (state j.rows)
Turned turn.LocksAgain t v fair c reply i j = ActsAt t v reply i j × rows.IsBegun (back_number i t) (mutex_of c.call)
    call.Lock (state i.rows) (state j.rows)
Turned turn.Unlocks t v fair c reply i j = (reply ≡ None) × (a : Option CoreAnswer)
    × rows.IsStepped (front_number i t) fair a (state i.rows) (state j.rows) × HearsOf a t v i j
Turned turn.Locks t v fair c reply i j = (reply ≡ None) × (a : Option CoreAnswer)
    × rows.IsStepped (back_number i t) fair a (state i.rows) (state j.rows) × HearsOf a t v i j
Turned turn.Follows t v fair c reply i j = (reply ≡ None) × IsFollowing t v (back_number i t) fair c i j
Turned turn.ComesBack t v fair c reply i j = (reply ≡ None) × HearsAt t v outside.Made i j
    × ComesBackIf (rows.may_expire (state i.rows) (back_number i t)) (back_number i t) i j
Turned turn.Hears t v fair c reply i j = (reply ≡ None) × HearsAt t v outside.Made i j × (j.rows ≡ i.rows)
Turned turn.Moves t v fair c reply i j = (reply ≡ None) × IsMoving t v c i j

-- a step of a thread in a call at a lock
pub record GoesAtLock (t : ℕ) (fair : Bool) (a : Option CoreAnswer) (i j : Joint) : Type 0 where
  pub step : rows.IsStepped (busy_number i t) fair a (state i.rows) (state j.rows)
  pub vars : j.vars ≡ i.vars
  pub seats : j.seats ≡ i.seats

-- a step of one in a call at a variable
pub record GoesAtVariable (t v : ℕ) (fair : Bool) (reply : Option CondvarReply) (i j : Joint) : Type 0 where
  pub call : OpenCall
  pub here : call_at i v t ≡ Some call
  pub turned : Turned (turn_of call) t v fair call reply i j
  pub seats : j.seats ≡ freed t reply i.seats

-- The thread has made a step.
abbrev pub IsGoneAt : Option ℕ → ℕ → Bool → Option Ended → Joint → Joint → Type 0
IsGoneAt None t fair end i j = (a : Option CoreAnswer) × GoesAtLock t fair a i j × (end ≡ option_map ended.AtLock a)
IsGoneAt (Some v) t fair end i j = (reply : Option CondvarReply) × GoesAtVariable t v fair reply i j
    × (end ≡ option_map ended.AtVariable reply)

abbrev pub IsGone : ℕ → Bool → Option Ended → Joint → Joint → Type 0
IsGone t fair end i j = IsGoneAt (seat_at i t).at t fair end i j

-- Its deadline has come, and nothing else has changed.
abbrev pub IsLateAt : Option ℕ → ℕ → Joint → Joint → Type 0
IsLateAt None t i j = rows.IsExpired (busy_number i t) (state i.rows) (state j.rows) × (j.vars ≡ i.vars)
    × (j.seats ≡ i.seats)
IsLateAt (Some v) t i j = HearsAt t v outside.Expired i j × (j.rows ≡ i.rows) × (j.seats ≡ i.seats)

abbrev pub IsLate : ℕ → Joint → Joint → Type 0
IsLate t i j = IsLateAt (seat_at i t).at t i j

-- A machine where nobody has done anything.
abbrev pub var_of : ℕ → Bool → Option Var
var_of threads true = Some (var.at_rest threads)
var_of threads false = None
