-- What holds of a machine of a condition variable at every moment.
use Rattle.std.specs.Prelude.{◌≡◌, ℕ, ◌+◌, ◌-◌, ◌^◌, ◌<◌, ◌≤◌, ◌==◌, Bool, true, false, length, Option, Some, None}
use Rattle.std.specs.Option.{option_map_or}
use Rattle.parking_lot_rules.specs.Variable.{IsSound}
use Rattle.parking_lot_protocol_waits.specs.declared.wait_act.WaitAnswer.{WaitAnswer}
use Rattle.parking_lot_protocol_waits.specs.declared.wait_act.WaitAnswer.TheVariants as answer
use Rattle.parking_lot_protocol_waits.specs.declared.wait_core.WaitPhase.{WaitPhase}
use Rattle.parking_lot_protocol_waits.specs.declared.wait_core.WaitPhase.TheVariants as w
use Rattle.parking_lot_protocol_waits.specs.declared.notify_core.NotifyPhase.{NotifyPhase}
use Rattle.parking_lot_protocol_waits.specs.declared.notify_core.NotifyPhase.TheVariants as n
use Rattle.parking_lot_machine_sides.specs.declared.condvar.calls.CondvarCall.{CondvarCall}
use Rattle.parking_lot_machine_sides.specs.declared.condvar.calls.CondvarCall.TheVariants.{Wait, WaitUntil, NotifyOne}
use Rattle.parking_lot_machine_sides.specs.declared.condvar.calls.CondvarCall.TheVariants.{NotifyAll}
use Rattle.parking_lot_machine_sides.specs.declared.condvar.open_call.Core.{Core}
use Rattle.parking_lot_machine_sides.specs.declared.condvar.open_call.Core.TheVariants as core
use Rattle.parking_lot_machine_sides.specs.Condvar.Calls.{OpenCall, is_of_all, is_timed}
use Rattle.parking_lot_machine_sides.specs.Condvar.Machines.{State, call_at, variable}
use Rattle.parking_lot_machine_sides.specs.Condvar.Turns.{is_inside}

-- that thread is the one
abbrev pub is_the : Option ℕ → ℕ → Bool
is_the o t = option_map_or (λ u. u == t) o false

-- one whose deadline hasn't come ends so
abbrev pub EndsInTime : Bool → WaitAnswer → Type 0
EndsInTime timed answer.Woken = Unit {0}
EndsInTime timed answer.WrongMutex = Unit {0}
EndsInTime timed answer.TimedOut = timed ≡ true
EndsInTime timed answer.WrongLot = ⊥

-- A wait is under way: what it knows is so, where so many wait, with a mutex whose number can be shown. It hasn't been
-- taken off the list before it has slept, and it gives up only if it has a deadline.
abbrev pub WaitKnows : Bool → Bool → ℕ → WaitPhase → Type 0
WaitKnows timed listed waiting (w.Enters k) = (listed ≡ true) × (k + 1 < 2 ^ 64)
WaitKnows timed listed waiting (w.Checks k) = (listed ≡ true) × (k + 1 < 2 ^ 64)
WaitKnows timed listed waiting (w.Appends k) = (listed ≡ true) × (k + 1 < 2 ^ 64)
WaitKnows timed listed waiting (w.Shows k) = (listed ≡ true) × (k + 1 < 2 ^ 64)
WaitKnows timed listed waiting (w.Rests k) = listed ≡ true
WaitKnows timed listed waiting (w.Unlocks k) = Unit {0}
WaitKnows timed listed waiting (w.Sleeps k) = Unit {0}
WaitKnows timed listed waiting (w.Expires k) = timed ≡ true
WaitKnows timed listed waiting (w.Quits k) = timed ≡ true
WaitKnows timed listed waiting w.Forgets = (timed ≡ true) × (waiting ≡ 0)
WaitKnows timed listed waiting w.Masks = timed ≡ true
WaitKnows timed listed waiting (w.Leaves here) = timed ≡ true
WaitKnows timed listed waiting (w.Resumes token) = Unit {0}
WaitKnows timed listed waiting (w.Locks false) = Unit {0}
WaitKnows timed listed waiting (w.Locks true) = timed ≡ true
WaitKnows timed listed waiting w.Retreats = Unit {0}
WaitKnows timed listed waiting (w.Ends a) = EndsInTime timed a
WaitKnows timed listed waiting p = ⊥

-- a notification of one takes one at most
abbrev pub TakesFew : Bool → ℕ → Type 0
TakesFew true taken = Unit {0}
TakesFew false taken = taken ≤ 1

-- A notification is under way: what it knows is so, among so many threads, at that word, where so many wait, and with
-- the bucket of that mutex entered too. It counts whom it has taken.
abbrev pub NotifyKnows : Bool → ℕ → ℕ → Option ℕ → ℕ → ℕ → NotifyPhase → Type 0
NotifyKnows of_all threads word beside waiting taken (n.Loads all) = (all ≡ of_all) × (taken ≡ 0)
NotifyKnows of_all threads word beside waiting taken (n.Enters all found) = (all ≡ of_all) × (taken ≡ 0)
NotifyKnows of_all threads word beside waiting taken (n.Checks all found) = (all ≡ of_all) × (taken ≡ 0)
    × (0 < word → 0 < waiting) × (beside ≡ Some (found - 1))
NotifyKnows of_all threads word beside waiting taken (n.Marks all) = (all ≡ of_all) × (taken ≡ 0)
    × (beside ≡ Some (word - 1))
NotifyKnows of_all threads word beside waiting taken (n.Moves all locked) = (all ≡ of_all) × (taken + waiting ≤ threads)
    × TakesFew of_all taken
NotifyKnows of_all threads word beside waiting taken (n.MarksRest notice) = (notice.count ≡ taken) × (notice.left ≡ false)
    × (waiting ≡ 0) × TakesFew of_all taken
NotifyKnows of_all threads word beside waiting taken (n.Forgets notice) = (notice.count ≡ taken) × (waiting ≡ 0)
    × TakesFew of_all taken
NotifyKnows of_all threads word beside waiting taken (n.Leaves notice) = (notice.count ≡ taken) × TakesFew of_all taken
NotifyKnows of_all threads word beside waiting taken (n.Wakes count) = (count ≡ taken) × TakesFew of_all taken
NotifyKnows of_all threads word beside waiting taken (n.Ends count) = (count ≡ taken) × TakesFew of_all taken
NotifyKnows of_all threads word beside waiting taken p = ⊥

abbrev pub IsWait : CondvarCall → Type 0
IsWait (Wait mutex) = Unit {0}
IsWait (WaitUntil mutex) = Unit {0}
IsWait call = ⊥

abbrev pub IsNotify : CondvarCall → Type 0
IsNotify NotifyOne = Unit {0}
IsNotify NotifyAll = Unit {0}
IsNotify call = ⊥

abbrev pub Knows : CondvarCall → Bool → ℕ → ℕ → Option ℕ → ℕ → ℕ → Core → Type 0
Knows call listed threads word beside waiting taken (core.Wait k) = IsWait call × WaitKnows (is_timed call) listed waiting
    k.phase
Knows call listed threads word beside waiting taken (core.Notify k) = IsNotify call × NotifyKnows (is_of_all call) threads word
    beside waiting taken k.phase

-- what holds of a thread in a call
pub record Sits (s : State) (t : ℕ) (c : OpenCall) : Type 0 where
  pub knows : Knows c.call c.listed (length s.calls) s.word s.beside (length s.queue) c.taken c.core
  pub section : is_inside c ≡ is_the s.inside t

pub record Fits (s : State) : Type 0 where
  -- the variable is sound in the sense of the rules
  pub sound : IsSound (variable s)
  pub seated : (t : ℕ) (c : OpenCall) → call_at s t ≡ Some c → Sits s t c
  -- who is in the section is in a call
  pub inside : (t : ℕ) → s.inside ≡ Some t → (c : OpenCall) × (call_at s t ≡ Some c)
  pub small : length s.calls ≤ 65536
