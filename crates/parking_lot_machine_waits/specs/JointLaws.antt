-- What holds of the answers and of the steps of a machine of locks and condition variables.
use Rattle.std.specs.Prelude.{◌≡◌, ℕ, Bool, true, Option, Some}
use Rattle.parking_lot_machine_sides.specs.declared.condvar.calls.CondvarCall.{CondvarCall}
use Rattle.parking_lot_machine_sides.specs.declared.condvar.calls.CondvarReply.{CondvarReply}
use Rattle.parking_lot_machine_sides.specs.Condvar.MachineLaws.{MayReply}
use Rattle.parking_lot_machine_calls.specs.declared.calls.LockCall.{LockCall}
use Rattle.parking_lot_machine_calls.specs.declared.calls.OwnMode.TheVariants as mode
use Rattle.parking_lot_machine.specs.RowFits.{FitsTogether}
use Rattle.parking_lot_machine.specs.Rows.{state}
use Rattle.parking_lot_machine_waits.specs.Joint.{Joint, mode_at, var_at}
use Rattle.parking_lot_machine_waits.specs.declared.ended.Ended.{Ended}
use Rattle.parking_lot_machine_waits.specs.JointMoves.{may_ask, may_call_at, may_expire, may_go}
use Rattle.parking_lot_machine_waits.specs.JointSteps.{GoesAtVariable, IsAsked, IsCalled, IsGone, IsLate, AreKnown}
use Rattle.parking_lot_machine_waits.specs.JointSteps.{KnownIn}
use Rattle.parking_lot_machine_waits.specs.Turns.{is_wait, mutex_of}
use Rattle.parking_lot_machine_waits.specs.Whole.{IsWhole}

-- A wait is answered that its deadline came only if it has one; a notification says how many it has taken, one at most
-- if it is of one.
abbrev pub RepliesFit : Type 0
RepliesFit = (t v : ℕ) (fair : Bool) (reply : CondvarReply) (i j : Joint) → KnownIn (var_at i v)
    → (x : GoesAtVariable t v fair (Some reply) i j) → MayReply x.call reply

-- what each of the two machines keeps by itself
pub record PartsFit (j : Joint) : Type 0 where
  pub rows : FitsTogether (state j.rows)
  pub vars : AreKnown j.vars

-- Where waits and mutexes are tied together, a beginning, a step or a deadline that is allowed leaves them so.
pub record StaysWhole : Type 0 where
  pub asks : (t lock : ℕ) (c : LockCall) (i j : Joint) → IsWhole i → may_ask i t lock c ≡ true → IsAsked t lock c i j
      → IsWhole j
  pub calls : (t v : ℕ) (c : CondvarCall) (i j : Joint) → IsWhole i → FitsTogether (state i.rows)
      → may_call_at i t v c ≡ true → IsCalled t v c i j → IsWhole j
  pub steps : (t : ℕ) (fair : Bool) (end : Option Ended) (i j : Joint) → IsWhole i → PartsFit i → may_go i t ≡ true
      → IsGone t fair end i j → IsWhole j
  pub deadlines : (t : ℕ) (i j : Joint) → IsWhole i → PartsFit i → may_expire i t ≡ true → IsLate t i j → IsWhole j

-- A wait that is answered leaves its thread owning the mutex, however it ends.
abbrev pub WaitsEndOwning : Type 0
WaitsEndOwning = (t v : ℕ) (fair : Bool) (reply : CondvarReply) (i j : Joint) → IsWhole i → PartsFit i
    → (x : GoesAtVariable t v fair (Some reply) i j) → is_wait x.call.call ≡ true
    → mode_at j t (mutex_of x.call.call) ≡ Some mode.Exclusive
