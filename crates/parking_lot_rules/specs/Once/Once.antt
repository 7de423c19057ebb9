-- The rules of a one-time initialization whose waiters sleep in a list: what a thread can be doing there, and what each
-- of its steps does.
use Rattle.std.specs.Prelude.{◌≡◌, ℕ, ◌+◌, ◌*◌, ◌<◌, ◌≤◌, ◌==◌, Bool, true, false, not, if◌then◌else◌, IsTrue, List, []}
use Rattle.std.specs.Prelude.{◌∷◌, ◌++◌, replicate, slice_get, slice_set, Option, Some, None}
use Rattle.std.specs.List.{sum_by, remove}
use Rattle.parking_lot_rules.specs.Classes.{bit}
use Rattle.parking_lot_rules.specs.Lists.{IsListOf}
pub use Rattle.parking_lot_rules.specs.declared.once.once_state.OnceState.{OnceState}
pub use Rattle.parking_lot_rules.specs.declared.once.once_state.OnceState.TheVariants.{New, Poisoned, InProgress, Done}
pub use Rattle.parking_lot_rules.specs.declared.once.wish.Wish.{Wish}

-- what a thread is doing there
pub data Role : Type 0 where
  Idle : Role
  Seeks : (wish : Wish) → Role
  -- in a section to go to sleep: it looks at the word, joins the list, and sleeps; or it was taken off the list and not
  -- yet woken
  Enters : (wish : Wish) → Role
  Checked : (wish : Wish) → Role
  Joined : (wish : Wish) → Role
  Sleeps : (wish : Wish) → Role
  Taken : (wish : Wish) → (by : ℕ) → Role
  -- its closure runs, and was handed the state before; the closure has ended well or not
  Runs : (before : OnceState) → Role
  Ends : (well : Bool) → Role
  -- it goes through the list, with whom it has taken so far; has stored; and wakes them
  Scans : (well : Bool) → (taken : List ℕ) → Role
  Stored : (taken : List ℕ) → Role
  Wakes : (taken : List ℕ) → Role

-- the word: the state, and 1 where callers may wait
pub record Word : Type 0 where
  pub state : OnceState
  pub parked : ℕ

abbrev pub state_number : OnceState → ℕ
state_number New = 0
state_number Done = 1
state_number Poisoned = 2
state_number InProgress = 4

-- as one number
abbrev pub number : Word → ℕ
number w = state_number w.state + 8 * w.parked

-- a call waits at this state
abbrev pub waits : Wish → OnceState → Bool
waits wish New = not wish.runs
waits wish Poisoned = (if wish.force then not wish.runs else false)
waits wish InProgress = true
waits wish Done = false

-- one that is forced or not runs its closure at this state
abbrev pub may_run : Bool → OnceState → Bool
may_run force New = true
may_run force Poisoned = force
may_run force InProgress = false
may_run force Done = false

-- the state behind a closure that has ended
abbrev pub ended : Bool → OnceState
ended true = Done
ended false = Poisoned

abbrev pub in_progress : OnceState → ℕ
in_progress InProgress = 1
in_progress state = 0

pub data Class : Type 0 where
  -- it has begun to run its closure, and not stored how that ended; of those, whose closure is known to have ended well
  Running : Class
  Succeeding : Class
  -- its closure runs
  Busy : Class
  Inside : Class
  Listed : Class
  Joining : Class
  -- at this state: one that stands in the list, or is about to, and doesn't wait; one in a call that waits
  Unwilling : OnceState → Class
  Patient : OnceState → Class

unfoldable pub weight : Class → Role → ℕ
weight Running (Runs before) = 1
weight Running (Ends well) = 1
weight Running (Scans well taken) = 1
weight Succeeding (Ends well) = bit well
weight Succeeding (Scans well taken) = bit well
weight Busy (Runs before) = 1
weight Inside (Enters wish) = 1
weight Inside (Checked wish) = 1
weight Inside (Joined wish) = 1
weight Inside (Scans well taken) = 1
weight Inside (Stored taken) = 1
weight Listed (Joined wish) = 1
weight Listed (Sleeps wish) = 1
weight Joining (Checked wish) = 1
weight (Unwilling state) (Checked wish) = bit (not (waits wish state))
weight (Unwilling state) (Joined wish) = bit (not (waits wish state))
weight (Unwilling state) (Sleeps wish) = bit (not (waits wish state))
weight (Patient state) (Seeks wish) = bit (waits wish state)
weight (Patient state) (Enters wish) = bit (waits wish state)
weight (Patient state) (Checked wish) = bit (waits wish state)
weight (Patient state) (Joined wish) = bit (waits wish state)
weight (Patient state) (Sleeps wish) = bit (waits wish state)
weight (Patient state) (Taken wish by) = bit (waits wish state)
weight c r = 0

abbrev pub total : Class → List Role → ℕ
total c rs = sum_by (weight c) rs

-- The word and the roles, counted class by class, fit each other.
pub record Fits (w : Word) (n : Class → ℕ) : Type 0 where
  -- one thread at most runs a closure, exactly where the word says so
  pub running : in_progress w.state ≡ n Running
  pub bit : w.parked ≤ 1
  pub inside : n Inside ≤ 1
  -- who waits is announced by the parked bit, and wants to wait at this state; the bit has a cause
  pub announced : 0 < n Listed + n Joining → w.parked ≡ 1
  pub willing : n (Unwilling w.state) ≡ 0
  pub cause : w.parked ≤ in_progress w.state + n (Patient w.state)

-- what holds of any roles at all
pub record Counts (n : Class → ℕ) : Type 0 where
  pub joining : n Joining ≤ n Inside
  pub willing : (s : OnceState) → n (Unwilling s) ≤ n Listed + n Joining
  pub progress : n (Unwilling InProgress) ≡ 0
  pub succeeding : n Succeeding + n Busy ≤ n Running

-- whether a thread was taken by t
abbrev pub taken_by : ℕ → Role → ℕ
taken_by t (Taken wish by) = (if by == t then 1 else 0)
taken_by t r = 0

-- whom a thread is to wake
abbrev pub wakes : Role → List ℕ
wakes (Scans well taken) = taken
wakes (Stored taken) = taken
wakes (Wakes taken) = taken
wakes r = []

abbrev pub wakes_at : Option Role → List ℕ
wakes_at None = []
wakes_at (Some r) = wakes r

-- a one-time initialization: its word, a role for each thread, and those that wait, oldest first
pub record Once : Type 0 where
  pub word : Word
  pub roles : List Role
  pub queue : List ℕ

-- The word fits the roles, the list holds those that wait there, and each thread is to wake those that it has taken,
-- each once.
pub record Sound (w : Word) (rs : List Role) (q : List ℕ) : Type 0 where
  pub fits : Fits w (λ c. total c rs)
  pub listed : IsListOf (weight Listed) q rs
  pub taken : (t : ℕ) → IsListOf (taken_by t) (wakes_at (slice_get rs t)) rs

abbrev pub IsSound : Once → Type 0
IsSound m = Sound m.word m.roles m.queue

-- steps that change nothing but the word and the role of the thread that makes them
pub data Plain : Type 0 where
  Begin : (wish : Wish) → Plain
  -- it sees that it is to run its closure, that the thing is done, or that the last closure failed
  Start : (force : Bool) → (before : OnceState) → Plain
  Complete : (wish : Wish) → Plain
  Refuse : (runs : Bool) → Plain
  -- it sets the parked bit, enters the section, looks at the word again, and leaves it, with or without a place in the
  -- list
  Flag : (wish : Wish) → Plain
  Enter : (wish : Wish) → Plain
  Check : (wish : Wish) → Plain
  Retreat : (wish : Wish) → Plain
  Rest : (wish : Wish) → Plain
  -- its closure returns; it stores the end at once where nobody waits, or in a section when it has taken all that do
  Return : (before : OnceState) → (well : Bool) → Plain
  Finish : (well : Bool) → Plain
  Look : (well : Bool) → Plain
  Store : (well : Bool) → (taken : List ℕ) → Plain
  Depart : (taken : List ℕ) → Plain
  Leave : Plain

-- the thread's role before the step
abbrev pub from : Plain → Role
from (Begin wish) = Idle
from (Start force before) = Seeks (record { runs = true; force = force })
from (Complete wish) = Seeks wish
from (Refuse runs) = Seeks (record { runs = runs; force = false })
from (Flag wish) = Seeks wish
from (Enter wish) = Seeks wish
from (Check wish) = Enters wish
from (Retreat wish) = Enters wish
from (Rest wish) = Joined wish
from (Return before well) = Runs before
from (Finish well) = Ends well
from (Look well) = Ends well
from (Store well taken) = Scans well taken
from (Depart taken) = Stored taken
from Leave = Wakes []

-- and after it
abbrev pub to : Plain → Role
to (Begin wish) = Seeks wish
to (Start force before) = Runs before
to (Complete wish) = Idle
to (Refuse runs) = Idle
to (Flag wish) = Seeks wish
to (Enter wish) = Enters wish
to (Check wish) = Checked wish
to (Retreat wish) = Seeks wish
to (Rest wish) = Sleeps wish
to (Return before well) = Ends well
to (Finish well) = Idle
to (Look well) = Scans well []
to (Store well taken) = Stored taken
to (Depart taken) = Wakes taken
to Leave = Idle

-- when it may be made: at this word, and with so many of each class among all threads
abbrev pub May : Plain → Word → (Class → ℕ) → Type 0
May (Begin wish) w all = Unit {0}
May (Start force before) w all = (w.state ≡ before) × IsTrue (may_run force before)
May (Complete wish) w all = w.state ≡ Done
May (Refuse runs) w all = w.state ≡ Poisoned
May (Flag wish) w all = IsTrue (waits wish w.state) × (w.parked ≡ 0)
May (Enter wish) w all = all Inside ≡ 0
May (Check wish) w all = IsTrue (waits wish w.state) × (w.parked ≡ 1)
May (Retreat wish) w all = Unit {0}
May (Rest wish) w all = Unit {0}
May (Return before well) w all = Unit {0}
May (Finish well) w all = w.parked ≡ 0
May (Look well) w all = all Inside ≡ 0
May (Store well taken) w all = all Listed ≡ 0
May (Depart taken) w all = Unit {0}
May Leave w all = Unit {0}

-- the word after it
abbrev pub written : Plain → Word → Word
written (Begin wish) w = w
written (Start force before) w = record w { state = InProgress }
written (Complete wish) w = w
written (Refuse runs) w = w
written (Flag wish) w = record w { parked = 1 }
written (Enter wish) w = w
written (Check wish) w = w
written (Retreat wish) w = w
written (Rest wish) w = w
written (Return before well) w = w
written (Finish well) w = record { state = ended well; parked = 0 }
written (Look well) w = w
written (Store well taken) w = record { state = ended well; parked = 0 }
written (Depart taken) w = w
written Leave w = w

-- all steps of a thread t
pub data Step : Type 0 where
  Alone : (k : Plain) → Step
  -- it joins the list
  Join : (wish : Wish) → Step
  -- it takes v, the first of the list; and wakes v, which it took
  Take : (well : Bool) → (taken : List ℕ) → (v : ℕ) → (wish : Wish) → Step
  Wake : (v : ℕ) → (left : List ℕ) → (wish : Wish) → Step

-- when the step may be made
abbrev pub Allowed : ℕ → Step → Once → Type 0
Allowed t (Alone k) m = (slice_get m.roles t ≡ Some (from k)) × May k m.word (λ c. total c m.roles)
Allowed t (Join wish) m = slice_get m.roles t ≡ Some (Checked wish)
Allowed t (Take well taken v wish) m = (slice_get m.roles t ≡ Some (Scans well taken)) × (slice_get m.queue 0 ≡ Some v)
    × (slice_get m.roles v ≡ Some (Sleeps wish))
Allowed t (Wake v left wish) m = (slice_get m.roles t ≡ Some (Wakes (v ∷ left)))
    × (slice_get m.roles v ≡ Some (Taken wish t))

-- what it leaves
abbrev pub after : ℕ → Step → Once → Once
after t (Alone k) m = record m { word = written k m.word; roles = slice_set m.roles t (to k) }
after t (Join wish) m = record m { roles = slice_set m.roles t (Joined wish); queue = m.queue ++ t ∷ [] }
after t (Take well taken v wish) m =
    record m {
      roles = slice_set (slice_set m.roles t (Scans well (taken ++ v ∷ []))) v (Taken wish t);
      queue = remove m.queue 0;
    }
after t (Wake v left wish) m = record m { roles = slice_set (slice_set m.roles v (Seeks wish)) t (Wakes left) }

-- any schedule, of any number of threads
abbrev pub IsRun : Once → List (ℕ × Step) → Once → Type 0
IsRun m [] n = n ≡ m
IsRun m (e ∷ es) n = Allowed e.0 e.1 m × IsRun (after e.0 e.1 m) es n

-- one of which nobody has made use: a new one, or one that is done from the beginning
abbrev pub unused : Bool → ℕ → Once
unused done threads =
    record {
      word = record { state = if done then Done else New; parked = 0 };
      roles = replicate threads Idle;
      queue = [];
    }

-- what holds at every moment of every run
abbrev pub AlwaysOfOnce : (Once → Type 0) → Type 0
AlwaysOfOnce P = (done : Bool) (threads : ℕ) (steps : List (ℕ × Step)) (m : Once) → IsRun (unused done threads) steps m
    → P m
