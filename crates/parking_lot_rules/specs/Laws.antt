-- What follows for a lock, in plain words.
use Rattle.std.specs.Prelude.{◌≡◌, ◌≢◌, ℕ, ◌+◌, ◌*◌, ◌<◌, ◌≤◌, ◌⊎◌, Bool, true, false, IsTrue, [], length, slice_get}
use Rattle.std.specs.Prelude.{Some}
use Rattle.parking_lot_rules.specs.Roles.{Mode, Shares, Asleep, Late, Phase, Idle, Seeks, Queued1, Taken1, Drains}
use Rattle.parking_lot_rules.specs.Roles.{Queued2, Taken2, Yields, Wakes, Role, away}
use Rattle.parking_lot_rules.specs.Classes.{Class, Readers, Upgraders, Pending, Writers, Waiting1, Waiting2, total}
use Rattle.parking_lot_rules.specs.Classes.{weighs}
use Rattle.parking_lot_rules.specs.Clauses.{number}
use Rattle.parking_lot_rules.specs.Plain.{YieldBack}
use Rattle.parking_lot_rules.specs.Steps.{Step, Alone}
use Rattle.parking_lot_rules.specs.Lists.{occurs}
use Rattle.parking_lot_rules.specs.Lock.{Lock, Note, to_wake}

-- all holds of a kind, and those of one thread
abbrev pub held : Class → Lock → ℕ
held c l = total c l.roles

abbrev pub holds : Class → Lock → ℕ → ℕ
holds c l u = weighs c (slice_get l.roles u)

-- The word is 16 for each shared hold, 20 for the upgradable one, 8 for the exclusive or pending one, and the two
-- parked bits.
pub record WordTells (l : Lock) : Type 0 where
  pub number : number l.word ≡ 16 * held Readers l + 20 * held Upgraders l + 8 * (held Pending l + held Writers l) + 2 *
      l.word.parked2 + l.word.parked1
  pub bit1 : l.word.parked1 ≤ 1
  pub bit2 : l.word.parked2 ≤ 1

-- Beside an exclusive owner there is no other. Of upgradable, pending and exclusive owners there is one.
pub record OwnersExclude (l : Lock) : Type 0 where
  pub exclusive : (t u : ℕ) → t ≢ u → 0 < holds Writers l t → holds Readers l u + holds Upgraders l u + holds Pending l
      u + holds Writers l u ≡ 0
  pub one : (t u : ℕ) → t ≢ u → 0 < holds Upgraders l t + holds Pending l t + holds Writers l t
      → holds Upgraders l u + holds Pending l u + holds Writers l u ≡ 0

-- where all threads are away, the word is 0 and nobody stands in a list
abbrev pub NothingIsLeft : Lock → Type 0
NothingIsLeft l = ((u : ℕ) (r : Role) → slice_get l.roles u ≡ Some r → r ≡ away) → (number l.word ≡ 0) × (l.first ≡ [])
    × (l.second ≡ [])

-- a thread sleeps
abbrev pub is_asleep : Phase → Bool
is_asleep (Queued1 mode Asleep) = true
is_asleep (Taken1 mode by mark Asleep) = true
is_asleep (Queued2 from Asleep) = true
is_asleep (Taken2 from by Asleep) = true
is_asleep phase = false

-- a thread that is to wake this one
abbrev pub IsWaker : Lock → ℕ → ℕ → Type 0
IsWaker l by u = (s : Role) × (note : Note) × (slice_get l.roles by ≡ Some s) × (0 < occurs u (to_wake s.does note))

-- The first list holds exactly those that wait on the first key, the second exactly those on the second. A sleeper
-- stands once in one list, or was taken by a thread that is still to wake it.
pub record SleepersAreKnown (l : Lock) : Type 0 where
  pub first : (u : ℕ) → occurs u l.first ≡ holds Waiting1 l u
  pub second : (u : ℕ) → occurs u l.second ≡ holds Waiting2 l u
  pub asleep : (u : ℕ) (r : Role) → slice_get l.roles u ≡ Some r → IsTrue (is_asleep r.does)
      → (occurs u l.first + occurs u l.second ≡ 1) ⊎ ((by : ℕ) × IsWaker l by u)

-- A thread owes a look at a list, or wakes, or is about to try again: it is inside a section, or has seen waiters, or
-- has taken some, or was woken, or is awake since its deadline and was taken.
abbrev pub owes : Phase → Bool
owes Idle = false
owes (Seeks mode woken) = woken
owes (Drains from woken) = woken
owes (Queued1 mode Asleep) = false
owes (Queued1 mode Late) = false
owes (Taken1 mode by mark Asleep) = false
owes (Queued2 from Asleep) = false
owes (Queued2 from Late) = false
owes (Taken2 from by Asleep) = false
owes (Yields from) = false
owes (Wakes []) = false
owes phase = true

-- somebody at the lock does
abbrev pub SomebodyOwes : Lock → Type 0
SomebodyOwes l = (u : ℕ) × (r : Role) × (slice_get l.roles u ≡ Some r) × IsTrue (owes r.does)

-- Where somebody waits on the first key and there is no exclusive, pending or upgradable owner, or a pending writer
-- waits on the second and there is no reader, somebody owes.
pub record DebtsAreKept (l : Lock) : Type 0 where
  pub first : 0 < length l.first → held Writers l + held Pending l + held Upgraders l ≡ 0 → SomebodyOwes l
  pub second : 0 < length l.second → held Readers l + held Upgraders l ≡ 0 → SomebodyOwes l

-- a thread is in the middle of a call there, and not asleep
abbrev pub is_at_work : Phase → Bool
is_at_work Idle = false
is_at_work (Queued1 mode Asleep) = false
is_at_work (Taken1 mode by mark Asleep) = false
is_at_work (Queued2 from Asleep) = false
is_at_work (Taken2 from by Asleep) = false
is_at_work phase = true

-- a thread owns the lock, isn't pending, and is in no call there
abbrev pub IsOwner : Role → Type 0
IsOwner r = (r.does ≡ Idle) × (r.owns ≢ Shares 0)

-- somebody at the lock is at work there, or owns it and is in no call
abbrev pub SomebodyIsUp : Lock → Type 0
SomebodyIsUp l = (v : ℕ) × (s : Role) × (slice_get l.roles v ≡ Some s) × (IsTrue (is_at_work s.does) ⊎ IsOwner s)

-- that is so where a thread sleeps there
abbrev pub SomebodyCanMove : Lock → Type 0
SomebodyCanMove l = (u : ℕ) (r : Role) → slice_get l.roles u ≡ Some r → IsTrue (is_asleep r.does) → SomebodyIsUp l

-- Where a thread that owns nothing and asks by a try finds a word that isn't 0, another thread is at the lock.
abbrev pub RefusalsHaveACause : Lock → Type 0
RefusalsHaveACause l = (t : ℕ) (mode : Mode) (woken : Bool)
    → slice_get l.roles t ≡ Some (record { owns = Shares 0; does = Seeks mode woken }) → number l.word ≢ 0
    → (u : ℕ) × (r : Role) × (u ≢ t) × (slice_get l.roles u ≡ Some r) × (r ≢ away)

-- a pending writer that came from the upgradable hold gives up, and has that hold again
abbrev pub gives_back : Step → Bool
gives_back (Alone (YieldBack owing)) = true
gives_back step = false

-- While a writer is pending on a lock that isn't recursive, the reader count doesn't grow, but by such a step.
abbrev pub ReadersAreKeptOut : Bool → ℕ → Step → Lock → Lock → Type 0
ReadersAreKeptOut recursive t step old new = recursive ≡ false → 0 < held Pending old → gives_back step ≡ false
    → new.word.readers ≤ old.word.readers
