-- The rules of a condition variable: the list of those that wait for it, and the mutex that they wait with. Whoever
-- waits stands here under a number of its own, apart from its thread's: the thread is still to give up the mutex then,
-- while another may already move the waiter.
use Rattle.std.specs.Prelude.{◌≡◌, ◌≢◌, ℕ, ◌+◌, ◌<◌, ◌≤◌, ◌⊎◌, List, [], ◌∷◌, ◌++◌, replicate, slice_get, slice_set}
use Rattle.std.specs.Prelude.{Some}
use Rattle.std.specs.List.{sum_by, remove}
use Rattle.parking_lot_rules.specs.Roles.{Stay, Fresh, Asleep, Late, Back}
use Rattle.parking_lot_rules.specs.Classes.{inside}
use Rattle.parking_lot_rules.specs.Lists.{IsListOf}

-- what it is doing there; `mutex`: which one it waits with
pub data Phase : Type 0 where
  Idle : Phase
  -- inside, to wait: before and after its look at the word, and in the list but not shown yet
  Enters : (mutex : ℕ) → Phase
  Checked : (mutex : ℕ) → Phase
  Joined : (mutex : ℕ) → Phase
  Queued : (mutex : ℕ) → (stay : Stay) → Phase
  -- inside, with the word still to be written: it has taken itself off the list, or takes others off it
  Leaves : Phase
  Notifies : Phase
  -- inside, with nothing left to do
  Left : Phase

pub data Class : Type 0 where
  Inside : Class
  -- in the list, and there since the word was written
  Waiting : Class
  Settled : Class
  -- the word is still to be written
  Storing : Class

unfoldable pub weight : Class → Phase → ℕ
weight Inside (Enters k) = 1
weight Inside (Checked k) = 1
weight Inside (Joined k) = 1
weight Inside (Queued k s) = inside s
weight Inside Leaves = 1
weight Inside Notifies = 1
weight Inside Left = 1
weight Waiting (Joined k) = 1
weight Waiting (Queued k s) = 1
weight Settled (Queued k s) = 1
weight Storing (Joined k) = 1
weight Storing Leaves = 1
weight Storing Notifies = 1
weight c p = 0

abbrev pub total : Class → List Phase → ℕ
total c ps = sum_by (weight c) ps

-- The word is 0, or shows a mutex: its number and 1 more.
pub record Fits (word : ℕ) (n : Class → ℕ) : Type 0 where
  pub inside : n Inside ≤ 1
  -- a mutex is shown exactly while somebody waits, but for one inside that is still to write the word
  pub shown : 0 < n Settled → 0 < word
  pub cause : 0 < word → 0 < n Settled + n Storing

-- what the word says to one that waits, or is about to
abbrev pub Agrees : ℕ → Phase → Type 0
Agrees word (Checked k) = (word ≡ 0) ⊎ (word ≡ k + 1)
Agrees word (Joined k) = (word ≡ 0) ⊎ (word ≡ k + 1)
Agrees word (Queued k s) = word ≡ k + 1
Agrees word p = Unit {0}

pub record Variable : Type 0 where
  pub word : ℕ
  pub phases : List Phase
  pub queue : List ℕ

-- What holds at every moment. All that wait, wait with the mutex that is shown.
pub record Sound (word : ℕ) (ps : List Phase) (q : List ℕ) : Type 0 where
  pub fits : Fits word (λ c. total c ps)
  pub waiting : IsListOf (weight Waiting) q ps
  pub agrees : (u : ℕ) (p : Phase) → slice_get ps u ≡ Some p → Agrees word p

abbrev pub IsSound : Variable → Type 0
IsSound v = Sound v.word v.phases v.queue

-- Steps that change nothing but the word and the phase of the one that makes them.
pub data Plain : Type 0 where
  -- it enters; others wait with another mutex, and it leaves; or it looks, shows its mutex, and sleeps
  Enter : (mutex : ℕ) → Plain
  Refuse : (mutex : ℕ) → Plain
  Check : (mutex : ℕ) → Plain
  Show : (mutex : ℕ) → Plain
  Rest : (mutex : ℕ) → Plain
  -- its deadline passes, and it enters to take itself off the list
  Expire : (mutex : ℕ) → Plain
  Reenter : (mutex : ℕ) → Plain
  -- one enters to notify
  Notify : Plain
  -- the word is written, where nobody is left and where somebody is; and out
  Forget : (after : Phase) → Plain
  Keep : (after : Phase) → Plain
  Go : Plain

abbrev pub from : Plain → Phase
from (Enter k) = Idle
from (Refuse k) = Enters k
from (Check k) = Enters k
from (Show k) = Joined k
from (Rest k) = Queued k Fresh
from (Expire k) = Queued k Asleep
from (Reenter k) = Queued k Late
from Notify = Idle
from (Forget p) = p
from (Keep p) = p
from Go = Left

abbrev pub to : Plain → Phase
to (Enter k) = Enters k
to (Refuse k) = Idle
to (Check k) = Checked k
to (Show k) = Queued k Fresh
to (Rest k) = Queued k Asleep
to (Expire k) = Queued k Late
to (Reenter k) = Queued k Back
to Notify = Notifies
to (Forget p) = Left
to (Keep p) = Left
to Go = Idle

-- when it may be made: at this word, and with so many of each class
abbrev pub May : Plain → ℕ → (Class → ℕ) → Type 0
May (Enter k) word all = all Inside ≡ 0
May (Refuse k) word all = (word ≢ 0) × (word ≢ k + 1)
May (Check k) word all = (word ≡ 0) ⊎ (word ≡ k + 1)
May (Show k) word all = Unit {0}
May (Rest k) word all = Unit {0}
May (Expire k) word all = Unit {0}
May (Reenter k) word all = all Inside ≡ 0
May Notify word all = all Inside ≡ 0
May (Forget p) word all = ((p ≡ Leaves) ⊎ (p ≡ Notifies)) × (all Waiting ≡ 0)
May (Keep p) word all = ((p ≡ Leaves) ⊎ (p ≡ Notifies)) × (0 < all Waiting)
May Go word all = Unit {0}

abbrev pub written : Plain → ℕ → ℕ
written (Show k) word = k + 1
written (Forget p) word = 0
written k word = word

-- All steps of t at a condition variable.
pub data Step : Type 0 where
  Alone : (k : Plain) → Step
  -- it joins the list, and takes itself off it again; i: where it stood
  Join : (mutex : ℕ) → Step
  Quit : (mutex : ℕ) → (i : ℕ) → Step
  -- it takes the first waiter off the list, which goes on at the mutex
  Release : (v : ℕ) → (mutex : ℕ) → (stay : Stay) → Step

abbrev pub Allowed : ℕ → Step → Variable → Type 0
Allowed t (Alone k) v = (slice_get v.phases t ≡ Some (from k)) × May k v.word (λ c. total c v.phases)
Allowed t (Join k) v = slice_get v.phases t ≡ Some (Checked k)
Allowed t (Quit k i) v = (slice_get v.phases t ≡ Some (Queued k Back)) × (slice_get v.queue i ≡ Some t)
Allowed t (Release u k stay) v = (slice_get v.phases t ≡ Some Notifies) × (slice_get v.queue 0 ≡ Some u)
    × (slice_get v.phases u ≡ Some (Queued k stay)) × (inside stay ≡ 0)

abbrev pub after : ℕ → Step → Variable → Variable
after t (Alone k) v = record v { word = written k v.word; phases = slice_set v.phases t (to k) }
after t (Join k) v = record v { phases = slice_set v.phases t (Joined k); queue = v.queue ++ t ∷ [] }
after t (Quit k i) v = record v { phases = slice_set v.phases t Leaves; queue = remove v.queue i }
after t (Release u k stay) v = record v { phases = slice_set v.phases u Idle; queue = remove v.queue 0 }

-- nobody waits, and none of so many does anything
abbrev pub quiet : ℕ → Variable
quiet threads = record { word = 0; phases = replicate threads Idle; queue = [] }

-- it is sound before anything is done, and after every step
pub record VariablesStaySound : Type 0 where
  pub begins : (threads : ℕ) → IsSound (quiet threads)
  pub steps : (t : ℕ) (step : Step) (v : Variable) → IsSound v → Allowed t step v → IsSound (after t step v)
