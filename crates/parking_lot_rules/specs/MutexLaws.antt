-- What follows for a mutex, in plain words.
use Rattle.std.specs.Prelude.{◌≡◌, ◌≢◌, ℕ, ◌+◌, ◌*◌, ◌<◌, ◌≤◌, ◌⊎◌, Bool, true, false, IsTrue, [], length, slice_get}
use Rattle.std.specs.Prelude.{Some}
use Rattle.parking_lot_rules.specs.Roles.{Asleep, Late, Mark}
use Rattle.parking_lot_rules.specs.Lists.{occurs, at_index}
use Rattle.parking_lot_rules.specs.Mutex.{Phase, Idle, Seeks, Queued, Taken, Wakes, Role, away, Owning, Waiting, weight}
use Rattle.parking_lot_rules.specs.Mutex.{total, number, wakes, Mutex}

-- The word is 1 where a thread owns the mutex, and 2 for the parked bit. One thread owns it at most.
pub record MutexTells (m : Mutex) : Type 0 where
  pub number : number m.word ≡ total Owning m.roles + 2 * m.word.parked
  pub bit : m.word.parked ≤ 1
  pub alone : (t u : ℕ) → t ≢ u → 0 < at_index (weight Owning) (slice_get m.roles t)
      → at_index (weight Owning) (slice_get m.roles u) ≡ 0

-- where all threads are away, the word is 0 and nobody stands in the list
abbrev pub NothingIsLeft : Mutex → Type 0
NothingIsLeft m = ((u : ℕ) (r : Role) → slice_get m.roles u ≡ Some r → r ≡ away) → (number m.word ≡ 0) × (m.queue ≡ [])

abbrev pub is_asleep : Phase → Bool
is_asleep (Queued Asleep) = true
is_asleep (Taken by mark Asleep) = true
is_asleep phase = false

-- a thread that is to wake this one
abbrev pub IsWaker : Mutex → ℕ → ℕ → Type 0
IsWaker m by u = (s : Role) × (mark : Mark) × (slice_get m.roles by ≡ Some s) × (0 < occurs u (wakes s mark))

-- The list holds exactly those that wait. A sleeper stands there once, or was taken by a thread that is still to wake
-- it.
pub record SleepersAreKnown (m : Mutex) : Type 0 where
  pub queue : (u : ℕ) → occurs u m.queue ≡ at_index (weight Waiting) (slice_get m.roles u)
  pub asleep : (u : ℕ) (r : Role) → slice_get m.roles u ≡ Some r → IsTrue (is_asleep r.does) → (occurs u m.queue ≡ 1)
      ⊎ ((by : ℕ) × IsWaker m by u)

-- a thread owes a look at the list, or wakes, or is about to try again
abbrev pub owes : Phase → Bool
owes Idle = false
owes (Seeks woken) = woken
owes (Queued Asleep) = false
owes (Queued Late) = false
owes (Taken by mark Asleep) = false
owes (Wakes []) = false
owes phase = true

abbrev pub SomebodyOwes : Mutex → Type 0
SomebodyOwes m = (u : ℕ) × (r : Role) × (slice_get m.roles u ≡ Some r) × IsTrue (owes r.does)

-- where somebody waits and nobody owns the mutex, somebody owes
abbrev pub DebtsAreKept : Mutex → Type 0
DebtsAreKept m = 0 < length m.queue → total Owning m.roles ≡ 0 → SomebodyOwes m

abbrev pub is_at_work : Phase → Bool
is_at_work Idle = false
is_at_work (Queued Asleep) = false
is_at_work (Taken by mark Asleep) = false
is_at_work phase = true

-- somebody is at work there, or owns the mutex and is in no call there
abbrev pub SomebodyIsUp : Mutex → Type 0
SomebodyIsUp m = (v : ℕ) × (s : Role) × (slice_get m.roles v ≡ Some s)
    × (IsTrue (is_at_work s.does) ⊎ ((s.owns ≡ true) × (s.does ≡ Idle)))

-- that is so where a thread sleeps there
abbrev pub SomebodyCanMove : Mutex → Type 0
SomebodyCanMove m = (u : ℕ) (r : Role) → slice_get m.roles u ≡ Some r → IsTrue (is_asleep r.does) → SomebodyIsUp m
