-- What the calls of a world are answered, whatever the schedule.
use Rattle.std.specs.Prelude.{◌≡◌, ℕ, ◌&&◌, ◌||◌, ◌==◌, Bool, true, false, if◌then◌else◌, List, ◌∷◌, Option, Some}
use Rattle.std.specs.Prelude.{slice_get}
use Rattle.std.specs.List.{list_any}
use Rattle.std.specs.Option.{option_and_then}
use Rattle.parking_lot_machine_sides.specs.declared.condvar.calls.CondvarCall.{CondvarCall}
use Rattle.parking_lot_machine_sides.specs.declared.condvar.calls.CondvarCall.TheVariants as variable
use Rattle.parking_lot_machine_sides.specs.declared.once.calls.OnceCall.{OnceCall}
use Rattle.parking_lot_machine_sides.specs.declared.once.calls.OnceCall.TheVariants as once
use Rattle.parking_lot_machine_calls.specs.declared.calls.LockCall.{LockCall as RowCall}
use Rattle.parking_lot_machine_calls.specs.declared.calls.LockCall.TheVariants as call
use Rattle.parking_lot_world.specs.declared.calls.Asked.TheVariants.{OfLock, OfOnce, OfVariable}
use Rattle.parking_lot_world.specs.declared.calls.LockAnswer.{LockAnswer}
use Rattle.parking_lot_world.specs.declared.calls.LockAnswer.TheVariants as answer
use Rattle.parking_lot_world.specs.declared.calls.LockCall.{LockCall}
use Rattle.parking_lot_world.specs.declared.step.WorldStep.{WorldStep}
use Rattle.parking_lot_world.specs.declared.step.WorldStep.TheVariants as step
use Rattle.parking_lot_world.specs.WorldCalls.{asked}
use Rattle.parking_lot_world.specs.Worlds.{IsFit, Ran, Shown}

-- what the thread's last call answered
abbrev pub answer_at : Shown → ℕ → Option LockAnswer
answer_at w t = option_and_then (λ a. a) (slice_get w.answers t)

-- the step begins a call of thread t, and it is its deadline
abbrev pub begins_for : ℕ → WorldStep → Bool
begins_for t (step.Begin thread lock call) = thread == t
begins_for t s = false

abbrev pub is_late_for : ℕ → WorldStep → Bool
is_late_for t (step.Deadline thread) = thread == t
is_late_for t s = false

abbrev pub is_owned : LockAnswer → Bool
is_owned answer.Owned = true
is_owned a = false

abbrev pub is_refused : LockAnswer → Bool
is_refused answer.Refused = true
is_refused a = false

abbrev pub is_released : LockAnswer → Bool
is_released answer.Released = true
is_released a = false

abbrev pub is_timed_out : LockAnswer → Bool
is_timed_out answer.TimedOut = true
is_timed_out a = false

abbrev pub is_wrong_mutex : LockAnswer → Bool
is_wrong_mutex answer.WrongMutex = true
is_wrong_mutex a = false

abbrev pub is_flag : LockAnswer → Bool
is_flag (answer.Flag some) = true
is_flag a = false

abbrev pub is_count : LockAnswer → Bool
is_count (answer.Count count) = true
is_count a = false

abbrev pub is_ran : LockAnswer → Bool
is_ran (answer.Ran before) = true
is_ran a = false

abbrev pub is_failed : LockAnswer → Bool
is_failed answer.Failed = true
is_failed a = false

abbrev pub is_poisoned : LockAnswer → Bool
is_poisoned answer.Poisoned = true
is_poisoned a = false

abbrev pub is_completed : LockAnswer → Bool
is_completed answer.Completed = true
is_completed a = false

-- What a call at a lock may be answered, where its deadline has come or hasn't.
abbrev pub may_answer : RowCall → Bool → LockAnswer → Bool
may_answer call.Lock late a = is_owned a
may_answer call.TryLock late a = is_owned a || is_refused a
may_answer call.LockUntil late a = is_owned a || (late && is_timed_out a)
may_answer call.Unlock late a = is_released a
may_answer call.Read late a = is_owned a
may_answer call.TryRead late a = is_owned a || is_refused a
may_answer call.UnlockRead late a = is_released a
may_answer call.Write late a = is_owned a
may_answer call.TryWrite late a = is_owned a || is_refused a
may_answer call.UnlockWrite late a = is_released a
may_answer call.Downgrade late a = is_owned a
may_answer call.UpgradableRead late a = is_owned a
may_answer call.TryUpgradableRead late a = is_owned a || is_refused a
may_answer call.UnlockUpgradable late a = is_released a
may_answer call.Upgrade late a = is_owned a
may_answer call.TryUpgrade late a = is_owned a || is_refused a
may_answer call.DowngradeToUpgradable late a = is_owned a
may_answer call.DowngradeUpgradable late a = is_owned a
may_answer call.ReadUntil late a = is_owned a || (late && is_timed_out a)
may_answer call.WriteUntil late a = is_owned a || (late && is_timed_out a)
may_answer call.UpgradableUntil late a = is_owned a || (late && is_timed_out a)
may_answer call.UpgradeUntil late a = is_owned a || (late && is_timed_out a)

-- And one at a condition variable: a wait owns its mutex again, however it ends, but for one that is refused since
-- others wait with another mutex.
abbrev pub may_tell : CondvarCall → Bool → LockAnswer → Bool
may_tell (variable.Wait m) late a = is_owned a || is_wrong_mutex a
may_tell (variable.WaitUntil m) late a = is_owned a || (is_wrong_mutex a || (late && is_timed_out a))
may_tell variable.NotifyOne late a = is_flag a
may_tell variable.NotifyAll late a = is_count a

-- And one at a once: its closure ran, and ended as the call said that it does; or the once was poisoned, where it isn't
-- forced; or it was done already.
abbrev pub may_end : OnceCall → Bool → LockAnswer → Bool
may_end (once.CallOnce well) late a = (if well then is_ran a else is_failed a) || (is_poisoned a || is_completed a)
may_end (once.CallOnceForce well) late a = (if well then is_ran a else is_failed a) || is_completed a
may_end once.OnceWait late a = is_poisoned a || is_completed a
may_end once.OnceWaitForce late a = is_completed a

-- Behind every run that begins with a call of thread t, and begins no other of it: what the thread is answered fits the
-- call, and it timed out only where its deadline is among the steps.
abbrev pub Fits : (Bool → LockAnswer → Bool) → ℕ → ℕ → LockCall → Type 0
Fits may t i asks =
    (w x : Shown) (steps : List WorldStep) (a : LockAnswer) → IsFit w → Ran w (step.Begin t i asks ∷ steps) x
    → list_any (begins_for t) steps ≡ false → answer_at x t ≡ Some a
    → may (list_any (is_late_for t) steps) a ≡ true

-- So is each call at a lock, at a condition variable and at a once answered.
pub record AnswersFit : Type 0 where
  pub locks : (t i : ℕ) (asks : LockCall) (c : RowCall) → asked asks ≡ OfLock c → Fits (may_answer c) t i asks
  pub variables : (t v : ℕ) (asks : LockCall) (c : CondvarCall) → asked asks ≡ OfVariable c → Fits (may_tell c) t v asks
  pub onces : (t i : ℕ) (asks : LockCall) (c : OnceCall) → asked asks ≡ OfOnce c → Fits (may_end c) t i asks
