-- How each step of a machine of locks leads calls to their answers.
use Rattle.std.specs.Prelude.{◌≡◌, ◌≢◌, ℕ, Bool, true, Option, Some, None, slice_get}
use Rattle.parking_lot_protocol.specs.declared.act.CoreAnswer.{CoreAnswer}
use Rattle.parking_lot_machine_calls.specs.Beginnings.{holds_beside}
use Rattle.parking_lot_machine_calls.specs.CallViews.{hold_mode}
use Rattle.parking_lot_machine_calls.specs.Calls.{is_timed}
use Rattle.parking_lot_machine_calls.specs.declared.calls.LockCall.{LockCall}
use Rattle.parking_lot_machine_calls.specs.declared.open_call.Call.{Call}
use Rattle.parking_lot_machine_calls.specs.declared.seat.Hold.{Hold}
use Rattle.parking_lot_machine.specs.Machines.{IsBegun, IsExpired, IsStepped, may_begin, may_expire}
use Rattle.parking_lot_machine.specs.RowFits.{FitsTogether}
use Rattle.parking_lot_machine.specs.Rows.{State, call_at, hold_at, lock_at}
use Rattle.parking_lot_machine.specs.Worlds.{mode_in}
use Rattle.parking_lot_machine.specs.CallLaws.Stages.{Leads, Over, Stage, quits, stage, stage_of}

-- a call is open at that lock, beside so many shared holds, has a deadline or hasn't, and stands there
pub record IsOpen (o : Option Call) (lock others : ℕ) (timed : Bool) (at : Stage) : Type 0 where
  pub call : Call
  pub here : o ≡ Some call
  pub there : call.lock ≡ lock
  pub beside : call.others ≡ others
  pub deadline : is_timed call.asked ≡ timed
  pub stands : stage call ≡ at

-- an open call is kept, at its lock, beside the same holds and with what it was asked, and leads on
pub record GoesOn (c : Call) (o : Option Call) : Type 0 where
  pub to : Stage
  pub kept : IsOpen o c.lock c.others (is_timed c.asked) to
  pub asked : kept.call.asked ≡ c.asked
  pub leads : Leads c.others (stage c) to

abbrev pub Onward : Option Call → Option Call → Type 0
Onward None o = o ≡ None
Onward (Some c) o = GoesOn c o

-- A call was over, and is answered so: its thread owns the lock as was known then.
pub record IsAnswered (t : ℕ) (c : Call) (answer : CoreAnswer) (s u : State) : Type 0 where
  pub hold : Hold
  pub over : stage c ≡ Over answer hold
  pub gone : call_at u t ≡ None
  pub holds : hold_at u t c.lock ≡ hold
  pub owns : mode_in (lock_at u c.lock) t ≡ hold_mode (slice_get s.kinds c.lock) hold

-- Of every machine that fits together.
pub record CallsLead : Type 0 where
  -- a call begins where its table says, and nobody else's changes
  pub begins : (s u : State) (t lock : ℕ) (call : LockCall) → may_begin s t lock call ≡ true → IsBegun t lock call s u
      → IsOpen (call_at u t) lock (holds_beside call (hold_at s t lock)) (is_timed call) (stage_of call)
  pub begins_alone : (s u : State) (t lock : ℕ) (call : LockCall) → IsBegun t lock call s u → (k : ℕ) → k ≢ t
      → call_at u k ≡ call_at s k
  -- a step that answers nothing leads every call on
  pub steps : (s u : State) (t : ℕ) (fair : Bool) → FitsTogether s → IsStepped t fair None s u → (k : ℕ)
      → Onward (call_at s k) (call_at u k)
  -- one that answers a call leaves all others
  pub answers : (s u : State) (t : ℕ) (fair : Bool) (answer : CoreAnswer) → FitsTogether s
      → (x : IsStepped t fair (Some answer) s u) → IsAnswered t x.call answer s u
  pub answers_alone : (s u : State) (t : ℕ) (fair : Bool) (answer : CoreAnswer) → IsStepped t fair (Some answer) s u
      → (k : ℕ) → k ≢ t → call_at u k ≡ call_at s k
  -- a call whose deadline comes quits, and nobody else's changes
  pub deadlines : (s u : State) (t : ℕ) → may_expire s t ≡ true → (x : IsExpired t s u)
      → IsOpen (call_at u t) x.call.lock x.call.others (is_timed x.call.asked) (quits (stage x.call))
  pub deadlines_alone : (s u : State) (t : ℕ) → IsExpired t s u → (k : ℕ) → k ≢ t → call_at u k ≡ call_at s k
