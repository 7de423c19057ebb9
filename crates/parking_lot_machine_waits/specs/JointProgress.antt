-- That some thread can move, or one waits for what only another can give.
use Rattle.std.specs.Prelude.{◌≡◌, ◌⊎◌, ℕ, ◌<◌, Bool, true, false, length, Option, Some, None}
use Rattle.parking_lot_protocol_waits.specs.declared.wait_core.WaitPhase.TheVariants as w
use Rattle.parking_lot_machine_sides.specs.declared.condvar.calls.CondvarCall.{CondvarCall}
use Rattle.parking_lot_machine_sides.specs.declared.condvar.open_call.Core.TheVariants as core
use Rattle.parking_lot_machine_sides.specs.declared.condvar.open_call.OpenCall.{OpenCall}
use Rattle.parking_lot_machine_calls.specs.declared.calls.LockCall.{LockCall}
use Rattle.parking_lot_machine_calls.specs.declared.open_call.Call.{Call}
use Rattle.parking_lot_machine.specs.Machines.{is_asleep}
use Rattle.parking_lot_machine.specs.Rows.{call_at as row_call_at, state}
use Rattle.parking_lot_machine.specs.SoundLaws.{SomebodyKeeps}
use Rattle.parking_lot_machine_waits.specs.declared.ended.Ended.{Ended}
use Rattle.parking_lot_machine_waits.specs.declared.turn.Turn.TheVariants as turn
use Rattle.parking_lot_machine_waits.specs.Joint.{Joint, back_number, call_at, number}
use Rattle.parking_lot_machine_waits.specs.JointLaws.{PartsFit}
use Rattle.parking_lot_machine_waits.specs.JointSides.{enters, enters_beside, is_open}
use Rattle.parking_lot_machine_waits.specs.JointMoves.{is_free, may_ask, may_call_at, may_expire, may_go}
use Rattle.parking_lot_machine_waits.specs.JointSteps.{IsAsked, IsCalled, IsGone, IsLate}
use Rattle.parking_lot_machine_waits.specs.Turns.{turn_of}
use Rattle.parking_lot_machine_waits.specs.Whole.{IsWhole}

-- A thread sleeps in the list of a variable, and waits for a notification or for its deadline.
pub record IsListed (j : Joint) (t : ℕ) : Type 0 where
  pub variable : ℕ
  pub call : OpenCall
  pub here : call_at j variable t ≡ Some call
  pub listed : call.listed ≡ true
  pub sleeps : turn_of call ≡ turn.Sleeps

-- One of its numbers sleeps at a lock that somebody keeps who is in no call there.
pub record IsKeptOut (j : Joint) (t : ℕ) : Type 0 where
  pub second : Bool
  pub call : Call
  pub here : row_call_at (state j.rows) (number j t second) ≡ Some call
  pub asleep : is_asleep (state j.rows) (number j t second) ≡ true
  pub kept : SomebodyKeeps (state j.rows) call.lock

-- Whoever gives its mutex up is in no section by its other number: that one is in no call, or was moved to the mutex's
-- list, where it sleeps or was woken.
abbrev pub GiversAreOut : Joint → Type 0
GiversAreOut j = (v t m : ℕ) (c : OpenCall) → call_at j v t ≡ Some c
    → c.core ≡ core.Wait (record { phase = w.Unlocks m }) → (state j.rows).lot.inside (back_number j t) ≡ None

-- Where a thread is in a call, some thread can move; or that thread itself waits in a list for a notification, its
-- deadline, or an owner.
abbrev pub SomebodyCanMove : Type 0
SomebodyCanMove =
    (j : Joint) (t : ℕ) → IsWhole j → PartsFit j → GiversAreOut j → t < length j.seats → is_free j t ≡ false
    → ((u : ℕ) × (may_go j u ≡ true)) ⊎ (IsListed j t ⊎ IsKeptOut j t)

-- So it is where nobody is in a call at a variable; and a beginning, a step or a deadline that is allowed keeps it,
-- where waits and mutexes are tied together.
pub record GiversStayOut : Type 0 where
  pub starts : (j : Joint) → ((v t : ℕ) → call_at j v t ≡ None) → GiversAreOut j
  pub asks : (t lock : ℕ) (c : LockCall) (i j : Joint) → IsWhole i → PartsFit i → GiversAreOut i
      → may_ask i t lock c ≡ true → IsAsked t lock c i j → GiversAreOut j
  pub calls : (t v : ℕ) (c : CondvarCall) (i j : Joint) → IsWhole i → PartsFit i → GiversAreOut i
      → may_call_at i t v c ≡ true → IsCalled t v c i j → GiversAreOut j
  pub steps : (t : ℕ) (fair : Bool) (end : Option Ended) (i j : Joint) → IsWhole i → PartsFit i → GiversAreOut i
      → may_go i t ≡ true → IsGone t fair end i j → GiversAreOut j
  pub deadlines : (t : ℕ) (i j : Joint) → IsWhole i → PartsFit i → GiversAreOut i → may_expire i t ≡ true → IsLate t i j
      → GiversAreOut j

-- Where a section is open, somebody can move who enters none: whoever is inside.
abbrev pub SomebodyInsideGoes : Type 0
SomebodyInsideGoes = (j : Joint) → IsWhole j → PartsFit j → GiversAreOut j → is_open j ≡ true → (u : ℕ)
    × (may_go j u ≡ true) × (enters j u ≡ None) × (enters_beside j u ≡ None)
