-- A lock, and what holds of it at every moment.
use Rattle.std.specs.Prelude.{ℕ, List, [], Option, Some, None}
use Rattle.parking_lot_rules.specs.Lists.{IsListOf, AreNotedBy}
use Rattle.parking_lot_rules.specs.Roles.{Mark, Open, Asleep, Phase, Taken1, Taken2, Scans1, Stored1, Scans2, Masked2}
use Rattle.parking_lot_rules.specs.Roles.{Wakes, Role}
use Rattle.parking_lot_rules.specs.Classes.{Class, Waiting1, Waiting2, weight, total}
use Rattle.parking_lot_rules.specs.Clauses.{Word, Fits}

-- The word of a lock, a role for each thread, and the lists of the threads that wait, oldest first: on the first key
-- those that want the lock, on the second the pending writer.
pub record Lock : Type 0 where
  pub word : Word
  pub roles : List Role
  pub first : List ℕ
  pub second : List ℕ

-- The list holds the threads of a class, each once, and no other.
abbrev pub Lists : Class → List ℕ → List Role → Type 0
Lists c q rs = IsListOf (weight c) q rs

-- Which key's list a thread was taken off, and what its taker has said since.
pub data Note : Type 0 where
  On1 : (mark : Mark) → Note
  On2 : Note

-- Who took a thread, which waits for what its taker does next: for its store, or for a wake.
abbrev pub note_of : Phase → Option (ℕ × Note)
note_of (Taken1 mode by Open stay) = Some (by, On1 Open)
note_of (Taken1 mode by mark Asleep) = Some (by, On1 mark)
note_of (Taken2 from by Asleep) = Some (by, On2)
note_of phase = None

-- whom a thread is to wake, of those that it took so
abbrev pub to_wake : Phase → Note → List ℕ
to_wake (Scans1 cause shared upgradable writer taken) (On1 Open) = taken
to_wake (Scans1 cause shared upgradable writer taken) note = []
to_wake (Stored1 taken) (On1 Open) = []
to_wake (Stored1 taken) note = taken
to_wake (Scans2 taken) (On1 Open) = []
to_wake (Scans2 taken) note = taken
to_wake (Masked2 taken) (On1 Open) = []
to_wake (Masked2 taken) note = taken
to_wake (Wakes taken) (On1 Open) = []
to_wake (Wakes taken) note = taken
to_wake phase note = []

-- the same of a role
abbrev pub role_note : Role → Option (ℕ × Note)
role_note r = note_of r.does

abbrev pub role_wakes : Role → Note → List ℕ
role_wakes r note = to_wake r.does note

-- Who took a sleeper is still to wake it.
abbrev pub AreNoted : List Role → Type 0
AreNoted rs = AreNotedBy role_note role_wakes rs

-- What holds of a lock at every moment.
pub record Sound (w : Word) (rs : List Role) (first second : List ℕ) : Type 0 where
  pub fits : Fits w (λ c. total c rs)
  pub waiting1 : Lists Waiting1 first rs
  pub waiting2 : Lists Waiting2 second rs
  pub noted : AreNoted rs

abbrev pub IsSound : Lock → Type 0
IsSound l = Sound l.word l.roles l.first l.second
