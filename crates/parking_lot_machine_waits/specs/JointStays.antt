-- What a step leaves as it was, for one who has another machine beside this one.
use Rattle.std.specs.Prelude.{◌≡◌, ◌≢◌, ◌⊎◌, ℕ, Bool, true, false, length, Option, Some, None, slice_get}
use Rattle.parking_lot_machine_sides.specs.declared.condvar.calls.CondvarCall.{CondvarCall}
use Rattle.parking_lot_machine_calls.specs.declared.calls.LockCall.{LockCall}
use Rattle.parking_lot_machine_calls.specs.declared.open_call.Call.{Call}
use Rattle.parking_lot_machine_calls.specs.Kinds.{AsMutex, manner_of}
use Rattle.parking_lot_machine.specs.Rows.{State, call_at as row_call_at, state}
use Rattle.parking_lot_machine_waits.specs.declared.ended.Ended.{Ended}
use Rattle.parking_lot_machine_waits.specs.Joint.{Joint, buckets, is_shut, is_var}
use Rattle.parking_lot_machine_waits.specs.JointLaws.{PartsFit}
use Rattle.parking_lot_machine_waits.specs.JointMoves.{may_ask, may_call_at, may_expire, may_go}
use Rattle.parking_lot_machine_waits.specs.JointSides.{enters_bucket, is_busy}
use Rattle.parking_lot_machine_waits.specs.JointSteps.{IsAsked, IsCalled, IsGone, IsLate}
use Rattle.parking_lot_machine_waits.specs.Whole.{IsWhole}

-- somebody is in a call at that lock, or it is a mutex, or the one that is asked now
abbrev pub WasThere : Option ℕ → State → ℕ → Type 0
WasThere asked s lock = ((k : ℕ) × (c : Call) × (row_call_at s k ≡ Some c) × (c.lock ≡ lock))
    ⊎ ((manner_of (slice_get s.kinds lock) ≡ Some AsMutex) ⊎ (asked ≡ Some lock))

-- A step of thread t, which enters some buckets: the locks and variables are those that they were, calls at locks are
-- where there were some, or at a mutex; nobody else has begun a call; and no other bucket has a section open where none
-- was.
pub record Leaves (t : ℕ) (enters : ℕ → Bool) (asked : Option ℕ) (i j : Joint) : Type 0 where
  pub kinds : (state j.rows).kinds ≡ (state i.rows).kinds
  pub threads : length j.seats ≡ length i.seats
  pub variables : (v : ℕ) → is_var j v ≡ is_var i v
  pub calls : (k : ℕ) (d : Call) → row_call_at (state j.rows) k ≡ Some d → WasThere asked (state i.rows) d.lock
  pub busy : (u : ℕ) → u ≢ t → is_busy j u ≡ true → is_busy i u ≡ true
  pub same_buckets : buckets j ≡ buckets i
  pub closed : (b : ℕ) → enters b ≡ false → is_shut i b ≡ false → is_shut j b ≡ false

abbrev pub enters_none : ℕ → Bool
enters_none b = false

-- So is each beginning, step and deadline.
pub record StepsLeave : Type 0 where
  pub asks : (t lock : ℕ) (c : LockCall) (i j : Joint) → IsWhole i → PartsFit i → may_ask i t lock c ≡ true
      → IsAsked t lock c i j → Leaves t enters_none (Some lock) i j
  pub calls : (t v : ℕ) (c : CondvarCall) (i j : Joint) → IsWhole i → PartsFit i → may_call_at i t v c ≡ true
      → IsCalled t v c i j → Leaves t enters_none None i j
  pub steps : (t : ℕ) (fair : Bool) (end : Option Ended) (i j : Joint) → IsWhole i → PartsFit i → may_go i t ≡ true
      → IsGone t fair end i j → Leaves t (enters_bucket i t) None i j
  pub deadlines : (t : ℕ) (i j : Joint) → IsWhole i → PartsFit i → may_expire i t ≡ true → IsLate t i j
      → Leaves t enters_none None i j
