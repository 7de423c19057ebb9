-- The clauses that hold of a lock at every moment.
use Rattle.std.specs.Prelude.{◌≡◌, ℕ, ◌+◌, ◌≤◌, ◌<◌, ◌*◌, ◌/◌, ◌%◌}
use Rattle.parking_lot_rules.specs.Classes.{Class, Readers, Upgraders, Pending, Writers, Inside1, Inside2, Waiting1}
use Rattle.parking_lot_rules.specs.Classes.{Waiting2, Joining1, Joining2, Masking, Owing1, Owing2, Called, OpenReaders}
use Rattle.parking_lot_rules.specs.Classes.{OpenUpgraders, OpenWriters, TakenReaders, TakenUpgraders, TakenWriters}
use Rattle.parking_lot_rules.specs.Classes.{Strange}

-- The word of a lock by its parts: the reader count, and the bits writer, upgradable, writer parked and parked.
pub record Word : Type 0 where
  pub readers : ℕ
  pub writer : ℕ
  pub upgradable : ℕ
  pub parked2 : ℕ
  pub parked1 : ℕ

-- as one number
abbrev pub number : Word → ℕ
number w = 16 * w.readers + 8 * w.writer + 4 * w.upgradable + 2 * w.parked2 + w.parked1

-- and the parts that a number tells
abbrev pub word_of : ℕ → Word
word_of n = record {
  readers = n / 16;
  writer = n / 8 % 2;
  upgradable = n / 4 % 2;
  parked2 = n / 2 % 2;
  parked1 = n % 2;
}

-- each of its bits is 0 or 1
pub record IsWord (w : Word) : Type 0 where
  pub writer : w.writer ≤ 1
  pub upgradable : w.upgradable ≤ 1
  pub parked2 : w.parked2 ≤ 1
  pub parked1 : w.parked1 ≤ 1

-- The word and the roles, counted class by class, fit each other.
pub record Fits (w : Word) (n : Class → ℕ) : Type 0 where
  -- the word says who owns the lock
  pub readers : w.readers ≡ n Readers + n Upgraders
  pub upgradable : w.upgradable ≡ n Upgraders
  pub writer : w.writer ≡ n Pending + n Writers
  pub one : w.writer + w.upgradable ≤ 1
  pub alone : 0 < n Writers → n Readers ≡ 0
  pub bit1 : w.parked1 ≤ 1
  pub bit2 : w.parked2 ≤ 1
  -- one thread at a time is inside a section
  pub inside1 : n Inside1 ≤ 1
  pub inside2 : n Inside2 ≤ 1
  -- who waits in the first list is announced by the parked bit, the bit has a cause, and somebody owes the waiters a
  -- look
  pub announced1 : 0 < n Waiting1 + n Joining1 → w.parked1 ≡ 1
  pub cause1 : w.parked1 ≤ w.writer + w.upgradable + n Waiting1 + n Owing1 + n Masking
  pub debt1 : 0 < n Waiting1 → 0 < w.writer + w.upgradable + n Owing1 + n Called + n OpenWriters + n OpenUpgraders
  -- likewise in the second
  pub announced2 : n Waiting2 + n Joining2 ≤ w.parked2
  pub debt2_pending : w.parked2 ≤ n Owing2 + n Pending
  pub debt2_readers : w.parked2 ≤ n Owing2 + n Readers
  -- the parked bit is cleared by one that found itself the last of the first list
  pub masks : 0 < n Masking → n Waiting1 ≡ 0
  -- one that goes through the first list knows whom it has taken, and takes at most one that wants more than a shared
  -- hold
  pub taken_readers : n OpenReaders ≡ n TakenReaders
  pub taken_upgraders : n OpenUpgraders ≡ n TakenUpgraders
  pub taken_writers : n OpenWriters ≡ n TakenWriters
  pub taken_one : n TakenUpgraders + n TakenWriters ≤ 1
  -- nobody waits that owns something
  pub proper : n Strange ≡ 0

-- What holds of any roles at all.
pub record Counts (n : Class → ℕ) : Type 0 where
  pub pending : n Waiting2 + n Joining2 ≤ n Pending
  pub joining1 : n Joining1 + n Masking + n TakenWriters ≤ n Inside1
  pub joining2 : n Joining2 ≤ n Inside2
  pub upgraders : n TakenUpgraders ≤ n Inside1
  pub none_taken : n Inside1 ≡ 0 → n TakenReaders ≡ 0
