-- How a notification takes waiters off the list, and wakes them or moves them to their mutex.
use Rattle.std.specs.Prelude.{◌≡◌, ℕ, zero, suc, ◌+◌, ◌-◌, ◌<◌, Bool, true, false, if◌then◌else◌, List, [], ◌∷◌, length}
use Rattle.std.specs.Prelude.{map, Option, Some, None, slice_get}
use Rattle.std.specs.Option.{option_map_or, unwrap_or}
use Rattle.parking_lot_machine_sides.specs.declared.condvar.calls.CondvarCall.{CondvarCall}
use Rattle.parking_lot_machine_sides.specs.declared.condvar.calls.CondvarCall.TheVariants as call
use Rattle.parking_lot_machine_sides.specs.declared.condvar.outside.Outside.{Outside}
use Rattle.parking_lot_machine_sides.specs.declared.condvar.outside.Outside.TheVariants as outside
use Rattle.parking_lot_machine_sides.specs.Condvar.Calls.{is_timed}
use Rattle.parking_lot_machine_sides.specs.Condvar.Machines as var
use Rattle.parking_lot_machine_sides.specs.Condvar.Machines.{State as Var, can_take}
use Rattle.parking_lot_machine_sides.specs.Condvar.Outsides.{can_be_told, woken_of}
use Rattle.parking_lot_machine_sides.specs.Condvar.Steps as vars
use Rattle.parking_lot_machine.specs.Requeues.{AreTakenIn, IsRousedIn, IsTakenIn, MayTakeIn, may_rouse_in}
use Rattle.parking_lot_machine.specs.Rows.{State}
use Rattle.parking_lot_machine_waits.specs.declared.seat.Seat.{Seat}
use Rattle.parking_lot_machine_waits.specs.Joint.{nowhere}

-- AT THE VARIABLE

-- how many a notification takes of so many that wait: all, or the first
abbrev pub first_of : ℕ → ℕ
first_of zero = 0
first_of (suc n) = 1

abbrev pub taken_of : CondvarCall → ℕ → ℕ
taken_of call.NotifyAll n = n
taken_of call.NotifyOne n = first_of n
taken_of (call.Wait m) n = 0
taken_of (call.WaitUntil m) n = 0

-- so many are taken off the list, one after another
abbrev pub AreTaken : ℕ → ℕ → Var → Var → Type 0
AreTaken t zero x y = y ≡ x
AreTaken t (suc n) x y = (z : Var) × AreTaken t n x z × (w : ℕ) × vars.IsTaken t w z y

abbrev pub MayTake : ℕ → ℕ → Var → Type 0
MayTake t zero x = Unit {0}
MayTake t (suc n) x = (can_take x t ≡ true) × ((w : ℕ) (y : Var) → vars.IsTaken t w x y → MayTake t n y)

-- whom it has taken: of a mutex that isn't locked it wakes the first, and it moves the others
abbrev pub moved_of : Bool → ℕ → Outside
moved_of locked n = outside.Moved (woken_of locked n) (n - woken_of locked n)

-- A notification has looked whether the mutex is locked, and has taken so many.
pub record Notifies (t : ℕ) (locked : Bool) (n : ℕ) (x y : Var) : Type 0 where
  pub marked : Var
  pub taken : Var
  pub looks : vars.IsTold t (outside.Marked locked) x marked
  pub takes : AreTaken t n marked taken
  pub tells : vars.IsTold t (moved_of locked n) taken y

pub record MayNotify (t : ℕ) (locked : Bool) (n : ℕ) (x : Var) : Type 0 where
  pub looks : can_be_told x t (outside.Marked locked) ≡ true
  pub takes : (y : Var) → vars.IsTold t (outside.Marked locked) x y → MayTake t n y
  pub tells : (y z : Var) → vars.IsTold t (outside.Marked locked) x y → AreTaken t n y z
      → can_be_told z t (moved_of locked n) ≡ true

abbrev pub NotifiesIn : ℕ → Bool → ℕ → Option Var → Option Var → Type 0
NotifiesIn t locked n (Some x) (Some y) = Notifies t locked n x y
NotifiesIn t locked n None y = ⊥
NotifiesIn t locked n (Some x) None = ⊥

abbrev pub MayNotifyIn : ℕ → Bool → ℕ → Option Var → Type 0
MayNotifyIn t locked n None = ⊥
MayNotifyIn t locked n (Some x) = MayNotify t locked n x

-- AT THE MUTEX

-- the number that a waiter sleeps with
abbrev pub back_in : List Seat → ℕ → ℕ
back_in seats t = (if (unwrap_or (slice_get seats t) nowhere).second then length seats + t else t)

-- whether its deadline may come
abbrev pub timed_in : Var → ℕ → Bool
timed_in x t = option_map_or (λ c. is_timed c.call) (var.call_at x t) false

abbrev pub entry : List Seat → Var → ℕ → ℕ × Bool
entry seats x t = (back_in seats t, timed_in x t)

-- one after the other is moved into the list of the mutex
abbrev pub AreMoved : List Seat → Var → ℕ → List ℕ → State → State → Type 0
AreMoved seats x lock ws s u = AreTakenIn lock (map (entry seats x) ws) s u

abbrev pub MayMove : List Seat → Var → ℕ → List ℕ → State → Type 0
MayMove seats x lock [] s = Unit {0}
MayMove seats x lock (w ∷ ws) s = (w < length seats) × MayTakeIn s (back_in seats w) lock
    × ((u : State) → IsTakenIn (back_in seats w) lock (timed_in x w) s u → MayMove seats x lock ws u)

-- Where the mutex is locked, all are; else the first is woken, and the others are moved behind it.
abbrev pub AreMovedAs : Bool → List Seat → Var → ℕ → List ℕ → State → State → Type 0
AreMovedAs true seats x lock ws s u = AreMoved seats x lock ws s u
AreMovedAs false seats x lock [] s u = u ≡ s
AreMovedAs false seats x lock (w ∷ ws) s u = (m : State) × IsRousedIn (back_in seats w) lock false s m
    × AreMoved seats x lock ws m u

abbrev pub MayMoveAs : Bool → List Seat → Var → ℕ → List ℕ → State → Type 0
MayMoveAs true seats x lock ws s = MayMove seats x lock ws s
MayMoveAs false seats x lock [] s = Unit {0}
MayMoveAs false seats x lock (w ∷ ws) s = (w < length seats) × (may_rouse_in s (back_in seats w) lock ≡ true)
    × ((u : State) → IsRousedIn (back_in seats w) lock false s u → MayMove seats x lock ws u)
