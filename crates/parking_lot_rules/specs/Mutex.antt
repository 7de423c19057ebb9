-- The rules of a mutex, by the same form: one key, and one kind of owner. A thread may move waiters of a condition
-- variable into the list.
use Rattle.std.specs.Prelude.{◌≡◌, ◌≢◌, ℕ, zero, suc, ◌+◌, ◌<◌, ◌≤◌, Bool, true, false, List, [], ◌∷◌, ◌++◌, length}
use Rattle.std.specs.Prelude.{map, replicate, slice_get, slice_set, Option, Some, None}
use Rattle.std.specs.List.{sum_by, remove}
use Rattle.parking_lot_rules.specs.Roles.{Stay, Fresh, Asleep, Late, Back, Mark, Open, Normal, Handed}
use Rattle.parking_lot_rules.specs.Lists.{IsListOf, AreNotedBy}
use Rattle.parking_lot_rules.specs.Classes.{bit, inside, if_open, if_normal, if_handed}

-- what a thread is doing at a mutex
pub data Phase : Type 0 where
  Idle : Phase
  -- on the way to the lock; `woken`: it was woken to try again
  Seeks : (woken : Bool) → Phase
  Enters : (woken : Bool) → Phase
  Checked : Phase
  Queued : (stay : Stay) → Phase
  Taken : (by : ℕ) → (mark : Mark) → (stay : Stay) → Phase
  -- it has taken itself off the list, as the last one there or as one of several
  Masks : Phase
  Leaves : Phase
  -- it gives the lock up in a section, has stored, and wakes whom it has taken
  Unlocks : (taken : List ℕ) → Phase
  Stored : (taken : List ℕ) → Phase
  Wakes : (taken : List ℕ) → Phase
  -- it is inside to move waiters of a condition variable here, before the parked bit is set and after
  Comes : Phase
  Moves : Phase

pub record Role : Type 0 where
  pub owns : Bool
  pub does : Phase

abbrev pub away : Role
away = record { owns = false; does = Idle }

pub data Class : Type 0 where
  Owning : Class
  Inside : Class
  Waiting : Class
  Joining : Class
  Masking : Class
  Called : Class
  Untold : Class
  Counted : Class
  Strange : Class

abbrev pub owned : Class → Bool → ℕ
owned Owning o = bit o
owned c o = 0

abbrev pub done : Class → Phase → ℕ
done Owning (Taken by how s) = if_handed how 1
done Owning (Unlocks us) = 1
done Inside (Enters c) = 1
done Inside Checked = 1
done Inside (Queued s) = inside s
done Inside (Taken by how s) = inside s
done Inside Masks = 1
done Inside Leaves = 1
done Inside (Unlocks us) = 1
done Inside (Stored us) = 1
done Inside Comes = 1
done Inside Moves = 1
done Waiting (Queued s) = 1
done Joining Checked = 1
done Joining Moves = 1
done Masking Masks = 1
done Called (Seeks c) = bit c
done Called (Enters c) = bit c
done Called (Taken by how s) = if_normal how 1
done Untold (Taken by how s) = if_open how 1
done Counted (Unlocks us) = length us
done c p = 0

-- what an owner counts that waits, or is giving the lock up
abbrev pub strange : Bool → Phase → ℕ
strange o (Seeks c) = bit o
strange o (Enters c) = bit o
strange o Checked = bit o
strange o (Queued s) = bit o
strange o (Taken by how s) = bit o
strange o Masks = bit o
strange o Leaves = bit o
strange o (Unlocks us) = bit o
strange o p = 0

unfoldable pub weight : Class → Role → ℕ
weight Strange r = strange r.owns r.does
weight c r = owned c r.owns + done c r.does

abbrev pub total : Class → List Role → ℕ
total c rs = sum_by (weight c) rs

pub record Word : Type 0 where
  pub locked : ℕ
  pub parked : ℕ

-- as one number
abbrev pub number : Word → ℕ
number w = w.locked + w.parked + w.parked

-- The word and the roles, counted class by class, fit each other.
pub record Fits (w : Word) (n : Class → ℕ) : Type 0 where
  pub owner : w.locked ≡ n Owning
  pub one : w.locked ≤ 1
  pub bit : w.parked ≤ 1
  pub inside : n Inside ≤ 1
  -- who waits is announced by the parked bit, the bit has a cause, and the lock is owned or somebody was called
  pub announced : 0 < n Waiting + n Joining → w.parked ≡ 1
  pub cause : w.parked ≤ w.locked + n Waiting + n Masking
  pub debt : 0 < n Waiting → 0 < w.locked + n Called
  pub masks : 0 < n Masking → n Waiting ≡ 0
  -- one that gives the lock up knows whom it has taken
  pub taken : n Untold ≡ n Counted
  pub proper : n Strange ≡ 0

-- What holds of any roles at all.
pub record Counts (n : Class → ℕ) : Type 0 where
  pub joining : n Joining + n Masking ≤ n Inside
  pub none_taken : n Inside ≡ 0 → n Counted ≡ 0

-- who took a thread that waits for what its taker does next
abbrev pub phase_note : Phase → Option (ℕ × Mark)
phase_note (Taken by Open stay) = Some (by, Open)
phase_note (Taken by mark Asleep) = Some (by, mark)
phase_note phase = None

-- whom a thread is to wake, of those that it took so
abbrev pub phase_wakes : Phase → Mark → List ℕ
phase_wakes (Unlocks taken) Open = taken
phase_wakes (Unlocks taken) mark = []
phase_wakes (Stored taken) Open = []
phase_wakes (Stored taken) mark = taken
phase_wakes (Wakes taken) Open = []
phase_wakes (Wakes taken) mark = taken
phase_wakes phase mark = []

abbrev pub note_of : Role → Option (ℕ × Mark)
note_of r = phase_note r.does

abbrev pub wakes : Role → Mark → List ℕ
wakes r mark = phase_wakes r.does mark

-- a mutex: its word, a role for each thread, and those that wait, oldest first
pub record Mutex : Type 0 where
  pub word : Word
  pub roles : List Role
  pub queue : List ℕ

pub record Sound (w : Word) (rs : List Role) (q : List ℕ) : Type 0 where
  pub fits : Fits w (λ c. total c rs)
  pub waiting : IsListOf (weight Waiting) q rs
  pub noted : AreNotedBy note_of wakes rs

abbrev pub IsSound : Mutex → Type 0
IsSound m = Sound m.word m.roles m.queue

-- Steps that change nothing but the word and the role of the thread that makes them.
pub data Plain : Type 0 where
  -- a call begins, and a try is refused
  Begin : Plain
  Refuse : Plain
  -- it is admitted; or it sets the parked bit, enters the section, looks at the word again, and leaves it, with or
  -- without a place in the list
  Lock : (woken : Bool) → Plain
  Flag : (woken : Bool) → Plain
  Enter : (woken : Bool) → Plain
  Check : (woken : Bool) → Plain
  Retreat : (woken : Bool) → Plain
  Rest : Plain
  -- its deadline passes, and it goes back into the section, whether it was taken in the meantime or not
  Expire : Plain
  ExpireTaken : (by : ℕ) → (mark : Mark) → Plain
  Reenter : Plain
  ReenterTaken : (by : ℕ) → (mark : Mark) → Plain
  Mask : Plain
  Leave : Plain
  Resume : (by : ℕ) → Plain
  Receive : (by : ℕ) → Plain
  -- the lock is given up, at once or by a section
  Unlock : Plain
  Look : Plain
  Depart : (owns : Bool) → (taken : List ℕ) → Plain
  Finish : (owns : Bool) → Plain
  -- a thread comes to move waiters of a condition variable here: it sets the parked bit if the mutex is locked, and
  -- goes again
  Come : (owns : Bool) → Plain
  MarkParked : (owns : Bool) → Plain
  GoUnmarked : (owns : Bool) → Plain
  Go : (owns : Bool) → Plain

-- the thread's role before the step
abbrev pub from : Plain → Role
from Begin = record { owns = false; does = Idle }
from Refuse = record { owns = false; does = Seeks false }
from (Lock c) = record { owns = false; does = Seeks c }
from (Flag c) = record { owns = false; does = Seeks c }
from (Enter c) = record { owns = false; does = Seeks c }
from (Check c) = record { owns = false; does = Enters c }
from (Retreat c) = record { owns = false; does = Enters c }
from Rest = record { owns = false; does = Queued Fresh }
from Expire = record { owns = false; does = Queued Asleep }
from (ExpireTaken by how) = record { owns = false; does = Taken by how Asleep }
from Reenter = record { owns = false; does = Queued Late }
from (ReenterTaken by how) = record { owns = false; does = Taken by how Late }
from Mask = record { owns = false; does = Masks }
from Leave = record { owns = false; does = Leaves }
from (Resume by) = record { owns = false; does = Taken by Normal Back }
from (Receive by) = record { owns = false; does = Taken by Handed Back }
from Unlock = record { owns = true; does = Idle }
from Look = record { owns = true; does = Idle }
from (Depart o us) = record { owns = o; does = Stored us }
from (Finish o) = record { owns = o; does = Wakes [] }
from (Come o) = record { owns = o; does = Idle }
from (MarkParked o) = record { owns = o; does = Comes }
from (GoUnmarked o) = record { owns = o; does = Comes }
from (Go o) = record { owns = o; does = Moves }

-- and after it
abbrev pub to : Plain → Role
to Begin = record { owns = false; does = Seeks false }
to Refuse = record { owns = false; does = Idle }
to (Lock c) = record { owns = true; does = Idle }
to (Flag c) = record { owns = false; does = Seeks c }
to (Enter c) = record { owns = false; does = Enters c }
to (Check c) = record { owns = false; does = Checked }
to (Retreat c) = record { owns = false; does = Seeks c }
to Rest = record { owns = false; does = Queued Asleep }
to Expire = record { owns = false; does = Queued Late }
to (ExpireTaken by how) = record { owns = false; does = Taken by how Late }
to Reenter = record { owns = false; does = Queued Back }
to (ReenterTaken by how) = record { owns = false; does = Taken by how Back }
to Mask = record { owns = false; does = Leaves }
to Leave = record { owns = false; does = Idle }
to (Resume by) = record { owns = false; does = Seeks true }
to (Receive by) = record { owns = true; does = Idle }
to Unlock = record { owns = false; does = Idle }
to Look = record { owns = false; does = Unlocks [] }
to (Depart o us) = record { owns = o; does = Wakes us }
to (Finish o) = record { owns = o; does = Idle }
to (Come o) = record { owns = o; does = Comes }
to (MarkParked o) = record { owns = o; does = Moves }
to (GoUnmarked o) = record { owns = o; does = Idle }
to (Go o) = record { owns = o; does = Idle }

-- when it may be made: at this word, and with so many of each class among all threads
abbrev pub May : Plain → Word → (Class → ℕ) → Type 0
May Begin w all = Unit {0}
May Refuse w all = Unit {0}
May (Lock c) w all = w.locked ≡ 0
May (Flag c) w all = (w.locked ≡ 1) × (w.parked ≡ 0)
May (Enter c) w all = all Inside ≡ 0
May (Check c) w all = (w.locked ≡ 1) × (w.parked ≡ 1)
May (Retreat c) w all = Unit {0}
May Rest w all = Unit {0}
May Expire w all = Unit {0}
May (ExpireTaken by how) w all = Unit {0}
May Reenter w all = all Inside ≡ 0
May (ReenterTaken by how) w all = all Inside ≡ 0
May Mask w all = Unit {0}
May Leave w all = Unit {0}
May (Resume by) w all = Unit {0}
May (Receive by) w all = Unit {0}
May Unlock w all = (w.locked ≡ 1) × (w.parked ≡ 0)
May Look w all = all Inside ≡ 0
May (Depart o us) w all = Unit {0}
May (Finish o) w all = Unit {0}
May (Come o) w all = all Inside ≡ 0
May (MarkParked o) w all = w.locked ≡ 1
May (GoUnmarked o) w all = w.locked ≡ 0
May (Go o) w all = Unit {0}

-- the word after it
abbrev pub written : Plain → Word → Word
written Begin w = w
written Refuse w = w
written (Lock c) w = record w { locked = 1 }
written (Flag c) w = record w { parked = 1 }
written (Enter c) w = w
written (Check c) w = w
written (Retreat c) w = w
written Rest w = w
written Expire w = w
written (ExpireTaken by how) w = w
written Reenter w = w
written (ReenterTaken by how) w = w
written Mask w = record w { parked = 0 }
written Leave w = w
written (Resume by) w = w
written (Receive by) w = w
written Unlock w = record w { locked = 0 }
written Look w = w
written (Depart o us) w = w
written (Finish o) w = w
written (Come o) w = w
written (MarkParked o) w = record w { parked = 1 }
written (GoUnmarked o) w = w
written (Go o) w = w

-- 1 if waiters are left
abbrev pub are_left : ℕ → ℕ
are_left zero = 0
are_left (suc n) = 1

-- what those that were taken and not told learn
abbrev pub told : Mark → Phase → Phase
told mark (Taken by Open stay) = Taken by mark stay
told mark phase = phase

abbrev pub settle : Mark → Role → Role
settle mark r = record r { does = told mark r.does }

-- All steps of a thread t at a mutex.
pub data Step : Type 0 where
  Alone : (k : Plain) → Step
  -- it joins the list, and takes itself off it again, as one of several or as the last; i: where it stood
  Join : Step
  Quit : (i : ℕ) → Step
  QuitLast : (i : ℕ) → Step
  -- it moves v, which waits for a condition variable, into the list
  Requeue : (owns : Bool) → (v : ℕ) → Step
  -- or takes v to wake it, where nobody owns the mutex, and moves w behind it
  Pull : (owns : Bool) → (v : ℕ) → Step
  Follow : (owns : Bool) → (v : ℕ) → (stay : Stay) → (w : ℕ) → Step
  -- it takes the first waiter, stores, with the lock handed over or not, and wakes
  Take : (v : ℕ) → (stay : Stay) → Step
  Free : (taken : List ℕ) → Step
  Hand : (v : ℕ) → Step
  Wake : (owns : Bool) → (v : ℕ) → (taken : List ℕ) → (stay : Stay) → Step
  WakeOwner : (owns : Bool) → (v : ℕ) → (taken : List ℕ) → (stay : Stay) → Step
  -- one of those that are to be woken has gone on by itself
  Pass : (owns : Bool) → (before : List ℕ) → (v : ℕ) → (taken : List ℕ) → Step

-- a thread is so, and owns nothing
abbrev pub doing : Phase → Role
doing p = record { owns = false; does = p }

-- when the step may be made
abbrev pub Allowed : ℕ → Step → Mutex → Type 0
Allowed t (Alone k) m = (slice_get m.roles t ≡ Some (from k)) × May k m.word (λ c. total c m.roles)
Allowed t Join m = slice_get m.roles t ≡ Some (doing Checked)
Allowed t (Quit i) m = (slice_get m.roles t ≡ Some (doing (Queued Back))) × (slice_get m.queue i ≡ Some t)
    × (1 < length m.queue)
Allowed t (QuitLast i) m = (slice_get m.roles t ≡ Some (doing (Queued Back))) × (slice_get m.queue i ≡ Some t)
    × (length m.queue ≡ 1)
Allowed t (Requeue o v) m = (slice_get m.roles t ≡ Some (record { owns = o; does = Moves }))
    × (slice_get m.roles v ≡ Some away)
Allowed t (Pull o v) m = (slice_get m.roles t ≡ Some (record { owns = o; does = Comes }))
    × (slice_get m.roles v ≡ Some away)
Allowed t (Follow o v stay w) m = (slice_get m.roles t ≡ Some (record { owns = o; does = Stored (v ∷ []) }))
    × (slice_get m.roles v ≡ Some (doing (Taken t Normal stay))) × (slice_get m.roles w ≡ Some away)
Allowed t (Take v stay) m = (slice_get m.roles t ≡ Some (doing (Unlocks []))) × (slice_get m.queue 0 ≡ Some v)
    × (slice_get m.roles v ≡ Some (doing (Queued stay)))
Allowed t (Free taken) m = (slice_get m.roles t ≡ Some (doing (Unlocks taken))) × (taken ≡ [] → m.queue ≡ [])
Allowed t (Hand v) m = slice_get m.roles t ≡ Some (doing (Unlocks (v ∷ [])))
Allowed t (Wake o v us stay) m = (slice_get m.roles t ≡ Some (record { owns = o; does = Wakes (v ∷ us) }))
    × (slice_get m.roles v ≡ Some (doing (Taken t Normal stay))) × (inside stay ≡ 0)
Allowed t (WakeOwner o v us stay) m = (slice_get m.roles t ≡ Some (record { owns = o; does = Wakes (v ∷ us) }))
    × (slice_get m.roles v ≡ Some (doing (Taken t Handed stay))) × (inside stay ≡ 0)
Allowed t (Pass o ws v us) m = (slice_get m.roles t ≡ Some (record { owns = o; does = Wakes (ws ++ v ∷ us) }))
    × ((r : Role) (mark : Mark) → slice_get m.roles v ≡ Some r → note_of r ≢ Some (t, mark))

-- the mutex after it
abbrev pub after : ℕ → Step → Mutex → Mutex
after t (Alone k) m = record m { word = written k m.word; roles = slice_set m.roles t (to k) }
after t Join m = record m { roles = slice_set m.roles t (doing (Queued Fresh)); queue = m.queue ++ t ∷ [] }
after t (Quit i) m = record m { roles = slice_set m.roles t (doing Leaves); queue = remove m.queue i }
after t (QuitLast i) m = record m { roles = slice_set m.roles t (doing Masks); queue = remove m.queue i }
after t (Requeue o v) m = record m { roles = slice_set m.roles v (doing (Queued Asleep)); queue = m.queue ++ v ∷ [] }
after t (Pull o v) m =
    record m {
      roles = slice_set (slice_set m.roles t (record { owns = o; does = Stored (v ∷ []) })) v
          (doing (Taken t Normal Asleep));
    }
after t (Follow o v stay w) m =
    record m {
      word = record m.word { parked = 1 };
      roles = slice_set m.roles w (doing (Queued Asleep));
      queue = m.queue ++ w ∷ [];
    }
after t (Take v stay) m =
    record m {
      roles = slice_set (slice_set m.roles t (doing (Unlocks (v ∷ [])))) v (doing (Taken t Open stay));
      queue = remove m.queue 0;
    }
after t (Free taken) m =
    record m {
      word = record { locked = 0; parked = are_left (length m.queue) };
      roles = slice_set (map (settle Normal) m.roles) t (doing (Stored taken));
    }
after t (Hand v) m =
    record m {
      word = record { locked = 1; parked = are_left (length m.queue) };
      roles = slice_set (map (settle Handed) m.roles) t (doing (Stored (v ∷ [])));
    }
after t (Wake o v us stay) m =
    record m { roles = slice_set (slice_set m.roles v (doing (Seeks true))) t (record { owns = o; does = Wakes us }) }
after t (WakeOwner o v us stay) m =
    record m {
      roles = slice_set (slice_set m.roles v (record { owns = true; does = Idle })) t
          (record { owns = o; does = Wakes us });
    }
after t (Pass o ws v us) m = record m { roles = slice_set m.roles t (record { owns = o; does = Wakes (ws ++ us) }) }

-- any schedule, of any number of threads
abbrev pub Runs : Mutex → List (ℕ × Step) → Mutex → Type 0
Runs m [] n = n ≡ m
Runs m (e ∷ es) n = Allowed e.0 e.1 m × Runs (after e.0 e.1 m) es n

abbrev pub unlocked : ℕ → Mutex
unlocked threads = record { word = record { locked = 0; parked = 0 }; roles = replicate threads away; queue = [] }

-- what holds at every moment of every run
abbrev pub AlwaysOfMutex : (Mutex → Type 0) → Type 0
AlwaysOfMutex P = (threads : ℕ) (steps : List (ℕ × Step)) (m : Mutex) → Runs (unlocked threads) steps m → P m
