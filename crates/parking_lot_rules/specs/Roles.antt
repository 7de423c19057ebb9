-- What a thread owns of a lock, and what it is doing there.
use Rattle.std.specs.Prelude.{ℕ, Bool, List}

-- how a lock may be asked for
pub data Mode : Type 0 where
  Shared : Mode
  Exclusive : Mode
  Upgradable : Mode

-- What a thread owns of a lock for good: a number of shared holds (none is 0), the exclusive hold, or the upgradable
-- one.
pub data Owned : Type 0 where
  Shares : (holds : ℕ) → Owned
  Excludes : Owned
  Upgrades : Owned

-- Where a thread that stands in a list is: still inside the section in which it joined, asleep, awake since its
-- deadline has passed, or back in a section to take itself off the list.
pub data Stay : Type 0 where
  Fresh : Stay
  Asleep : Stay
  Late : Stay
  Back : Stay

-- What is known of a thread that was taken off the first list: its taker hasn't stored yet, or woke it to try again, or
-- has handed the lock over to it.
pub data Mark : Type 0 where
  Open : Mark
  Normal : Mark
  Handed : Mark

-- Why a thread goes through the first list: it is giving up the exclusive hold, or the upgradable one, which it has
-- until it stores; or it owes the look since an earlier step.
pub data Cause : Type 0 where
  FromExclusive : Cause
  FromUpgradable : Cause
  Owed : Cause

-- What a thread is doing at a lock.
pub data Phase : Type 0 where
  -- nothing
  Idle : Phase
  -- On the way to a first admission. `woken`: it was woken to try again, and since then was neither admitted nor found
  -- that it has to wait.
  Seeks : (mode : Mode) → (woken : Bool) → Phase
  Enters1 : (mode : Mode) → (woken : Bool) → Phase
  Checked1 : (mode : Mode) → Phase
  Queued1 : (mode : Mode) → (stay : Stay) → Phase
  Taken1 : (mode : Mode) → (by : ℕ) → (mark : Mark) → (stay : Stay) → Phase
  -- it has taken itself off the first list as the last one there, or as one of several
  Masks1 : Phase
  Leaves1 : Phase
  -- Pending: no writer may come any more, and the readers are waited for. `from`: it came from the upgradable hold.
  -- `woken`: as above.
  Drains : (from : Bool) → (woken : Bool) → Phase
  Enters2 : (from : Bool) → (woken : Bool) → Phase
  Checked2 : (from : Bool) → Phase
  Queued2 : (from : Bool) → (stay : Stay) → Phase
  Taken2 : (from : Bool) → (by : ℕ) → (stay : Stay) → Phase
  Leaves2 : (from : Bool) → Phase
  Yields : (from : Bool) → Phase
  -- Going through the first list, with what it has taken so far: shared waiters, whether an upgradable one, whether a
  -- writer, and all of them in order.
  Owes1 : Phase
  Scans1 : (cause : Cause) → (shared : ℕ) → (upgradable : Bool) → (writer : Bool) → (taken : List ℕ) → Phase
  Stored1 : (taken : List ℕ) → Phase
  -- taking the pending writer off the second list
  Owes2 : Phase
  Scans2 : (taken : List ℕ) → Phase
  Masked2 : (taken : List ℕ) → Phase
  -- waking those that it has taken
  Wakes : (taken : List ℕ) → Phase

-- a thread at a lock
pub record Role : Type 0 where
  pub owns : Owned
  pub does : Phase

-- a thread that has nothing to do with the lock
abbrev pub away : Role
away = record { owns = Shares 0; does = Idle }
