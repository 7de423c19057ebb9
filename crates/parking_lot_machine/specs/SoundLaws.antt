-- What holds of a machine of locks at every moment, in the words of its views.
use Rattle.std.specs.Prelude.{◌≡◌, ◌≢◌, ℕ, ◌+◌, ◌*◌, ◌<◌, ◌≤◌, ◌⊎◌, ◌==◌, ◌&&◌, Bool, true, false, length, Option, Some}
use Rattle.std.specs.Prelude.{None, slice_get}
use Rattle.std.specs.Option.{option_map_or}
use Rattle.parking_lot_protocol.specs.declared.act.Act.TheVariants as act
use Rattle.parking_lot_protocol.specs.declared.act.CoreAnswer.{CoreAnswer}
use Rattle.parking_lot_rules.specs.Any.{AnyLock, Rw, Mx}
use Rattle.parking_lot_rules.specs.Classes.{bit}
use Rattle.parking_lot_rules.specs.Lists.{occurs}
use Rattle.parking_lot_rules.specs.MutexOwners as mutex
use Rattle.parking_lot_rules.specs.Owners as rw
use Rattle.parking_lot_machine_calls.specs.declared.calls.LockCall.{LockCall}
use Rattle.parking_lot_machine_calls.specs.declared.calls.OwnMode.{OwnMode}
use Rattle.parking_lot_machine_calls.specs.declared.calls.OwnMode.TheVariants as mode
use Rattle.parking_lot_machine_calls.specs.declared.open_call.Call.{Call}
use Rattle.parking_lot_machine_calls.specs.declared.seat.QueuePosition.{QueuePosition}
use Rattle.parking_lot_machine_calls.specs.declared.seat.QueuePosition.TheVariants as spot
use Rattle.parking_lot_machine_calls.specs.Kinds.{AsRw, manner_of, recursive_in}
use Rattle.parking_lot_machine.specs.Ranks.{own_steps, steps_left}
use Rattle.parking_lot_machine.specs.Machines.{can_move, is_asleep, IsBegun, IsExpired, IsStepped}
use Rattle.parking_lot_machine.specs.RowFits.{FitsTogether}
use Rattle.parking_lot_machine.specs.Rows.{State, call_at, first_key, lock_at, open_at, queue_at, second_key}
use Rattle.parking_lot_machine_calls.specs.CallActs.{key_of}
use Rattle.parking_lot_machine_calls.specs.LateCalls.{comes_late, late_key}
use Rattle.parking_lot_machine_calls.specs.Stances.{Doing, Joined, Stance, Out, In, Asleep, core_act, stance}
use Rattle.parking_lot_machine.specs.Worlds.{is_indebted, mode_in}

-- The table of modes: whether one thread may own a lock so while another owns it so.
abbrev pub agrees : OwnMode → OwnMode → Bool
agrees mode.Shared mode.Exclusive = false
agrees mode.Shared other = true
agrees mode.Upgradable mode.Shared = true
agrees mode.Upgradable other = false
agrees mode.Pending mode.Shared = true
agrees mode.Pending other = false
agrees mode.Exclusive other = false

-- Any two owners of a lock agree.
abbrev pub OwnersAgree : State → Type 0
OwnersAgree s = (i t u : ℕ) (a b : OwnMode) → t ≢ u → mode_in (lock_at s i) t ≡ Some a
    → mode_in (lock_at s i) u ≡ Some b → agrees a b ≡ true

-- nobody owns the lock, but by shared holds
abbrev pub OnlyReaders : State → ℕ → Type 0
OnlyReaders s i = (u : ℕ) (a : OwnMode) → mode_in (lock_at s i) u ≡ Some a → a ≡ mode.Shared

-- nobody reads under the lock, by a shared hold or the upgradable one
abbrev pub NoReaders : State → ℕ → Type 0
NoReaders s i = (u : ℕ) (a : OwnMode) → mode_in (lock_at s i) u ≡ Some a → (a ≢ mode.Shared) × (a ≢ mode.Upgradable)

-- some thread in a call at the lock owes a section or a wake, or is about to try again
abbrev pub SomebodyIsInDebt : State → ℕ → Type 0
SomebodyIsInDebt s i = (u : ℕ) × (c : Call) × (call_at s u ≡ Some c) × (c.lock ≡ i) × (is_indebted s u ≡ true)

-- Where somebody waits in a lock's first list and nobody owns the lock but by shared holds, somebody there is in debt.
-- Where the pending writer waits in the second and nobody reads, too.
pub record DebtsAreKept (s : State) : Type 0 where
  pub first : (i : ℕ) → 0 < length (queue_at s (first_key i)) → OnlyReaders s i → SomebodyIsInDebt s i
  pub second : (i : ℕ) → manner_of (slice_get s.kinds i) ≡ Some AsRw → 0 < length (queue_at s (second_key i))
      → NoReaders s i → SomebodyIsInDebt s i

-- A thread in a call can move, but where it sleeps, and where it is before a section, as one that comes back behind its
-- deadline is too, and another is in one of the same bucket.
abbrev pub AwakeCanMove : State → Type 0
AwakeCanMove s = (t : ℕ) (c : Call) → call_at s t ≡ Some c → is_asleep s t ≡ false
    → ((k : ℕ) → core_act c.core ≡ act.Enter k → open_at s (key_of c k) ≡ None)
    → (comes_late c.core ≡ true → open_at s (late_key c) ≡ None) → can_move s t ≡ true

-- the thread is in no call at lock i
abbrev pub IsApart : ℕ → Option Call → Type 0
IsApart i None = Unit {0}
IsApart i (Some c) = c.lock ≢ i

-- some thread that is in no call at the lock owns it
abbrev pub SomebodyKeeps : State → ℕ → Type 0
SomebodyKeeps s i = (u : ℕ) × (a : OwnMode) × (mode_in (lock_at s i) u ≡ Some a) × IsApart i (call_at s u)

-- Where a thread is in a call, some thread can move; or the thread sleeps, and one that is in no call at its lock keeps
-- it.
abbrev pub SomebodyCanMove : State → Type 0
SomebodyCanMove s = (t : ℕ) (c : Call) → call_at s t ≡ Some c → ((u : ℕ) × (can_move s u ≡ true))
    ⊎ ((is_asleep s t ≡ true) × SomebodyKeeps s c.lock)

-- WHO WAITS

abbrev pub has_joined : Doing → Bool
has_joined (Joined token) = true
has_joined how = false

-- a thread that stands so at a lock waits in its first list (k is 0) or its second: it has joined it, and nobody has
-- taken it off since
abbrev pub waits_as : ℕ → QueuePosition → Stance → Bool
waits_as k at Out = false
waits_as k at (In j how) = has_joined how && (j == k)
waits_as k spot.Listed (Asleep j token) = j == k
waits_as k (spot.Off by said) (Asleep j token) = false

abbrev pub waits_in : State → ℕ → ℕ → ℕ → Bool
waits_in s i k t = option_map_or (λ c. (c.lock == i) && waits_as k c.spot (stance c.core)) (call_at s t) false

-- A lock's lists have exactly the threads that wait there, each once.
pub record ListsAreWaiters (s : State) : Type 0 where
  pub first : (i t : ℕ) → occurs t (queue_at s (first_key i)) ≡ bit (waits_in s i 0 t)
  pub second : (i t : ℕ) → occurs t (queue_at s (second_key i)) ≡ bit (waits_in s i 1 t)

-- HOW MANY STEPS ARE LEFT

-- the most that one of n threads has left
abbrev pub most_steps : ℕ → ℕ
most_steps n = 219 * n + 200

-- At every moment, and not only where its call begins: those of a thread that is stepped alone, and those of all
-- threads together.
pub record StepsAreFew (s : State) : Type 0 where
  pub each : (t : ℕ) (c : Call) → call_at s t ≡ Some c → own_steps s t (Some c) ≤ most_steps (length s.calls)
  pub all : (t : ℕ) → steps_left s t ≤ length s.calls * most_steps (length s.calls)

-- all of these
pub record IsSoundMachine (s : State) : Type 0 where
  pub owners : OwnersAgree s
  pub lists : ListsAreWaiters s
  pub debts : DebtsAreKept s
  pub awake : AwakeCanMove s
  pub moves : SomebodyCanMove s
  pub few : StepsAreFew s

-- WHAT A STEP IS TO A LOCK

-- What a step of thread t does to owners and lists of a lock is a case of a lock without a word.
abbrev pub IsCaseAt : Bool → ℕ → AnyLock → AnyLock → Type 0
IsCaseAt recursive t (Rw l) (Rw m) = (case : rw.Case) × rw.IsCase recursive t case (rw.owners l) (rw.owners m)
IsCaseAt recursive t (Mx l) (Mx m) = (case : mutex.Case) × mutex.IsCase t case (mutex.owners l) (mutex.owners m)
IsCaseAt recursive t (Rw l) (Mx m) = ⊥
IsCaseAt recursive t (Mx l) (Rw m) = ⊥

-- It is a case at lock j, and leaves every other lock as it was.
pub record IsStepAt (t j : ℕ) (s u : State) : Type 0 where
  pub case : IsCaseAt (recursive_in s.kinds j) t (lock_at s j) (lock_at u j)
  pub elsewhere : (i : ℕ) → i ≢ j → lock_at u i ≡ lock_at s i

-- who owns a lock, and who waits in its lists, is the same
abbrev pub HasSameOwners : AnyLock → AnyLock → Type 0
HasSameOwners (Rw l) (Rw m) = rw.owners m ≡ rw.owners l
HasSameOwners (Mx l) (Mx m) = mutex.owners m ≡ mutex.owners l
HasSameOwners (Rw l) (Mx m) = ⊥
HasSameOwners (Mx l) (Rw m) = ⊥

-- So is each step of the machine, each beginning of a call, and each deadline that comes. The last moves nobody: owners
-- and lists of all locks stay.
pub record StepsAreCases : Type 0 where
  pub step : (s u : State) (t : ℕ) (fair : Bool) (answer : Option CoreAnswer) → FitsTogether s
      → (x : IsStepped t fair answer s u) → IsStepAt t x.call.lock s u
  pub begin : (s u : State) (t lock : ℕ) (call : LockCall) → FitsTogether s → IsBegun t lock call s u
      → IsStepAt t lock s u
  pub deadline : (s u : State) (t : ℕ) → FitsTogether s → (x : IsExpired t s u) → IsStepAt t x.call.lock s u
  pub deadline_moves_nobody : (s u : State) (t : ℕ) → FitsTogether s → IsExpired t s u → (i : ℕ)
      → HasSameOwners (lock_at s i) (lock_at u i)

-- That is so of every machine that fits together.
abbrev pub Always : (State → Type 0) → Type 0
Always P = (s : State) → FitsTogether s → P s
