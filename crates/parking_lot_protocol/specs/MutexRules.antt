-- Which step of the rules each answer to a mutex's core is, and in which role its thread is.
use Rattle.std.specs.Prelude.{◌≡◌, ◌≤◌, ℕ, ◌==◌, ◌&&◌, ◌||◌, Bool, true, false, if◌then◌else◌, List, [], ◌∷◌, Some}
use Rattle.parking_lot_rules.specs.Roles.{Mark, Normal, Handed, Fresh, Asleep}
use Rattle.parking_lot_rules.specs.Mutex as rules
use Rattle.parking_lot_protocol.specs.declared.act.ActResult.{ActResult}
use Rattle.parking_lot_protocol.specs.declared.act.ActResult.TheVariants as seen
use Rattle.parking_lot_protocol.specs.declared.act.CoreAnswer.{CoreAnswer}
use Rattle.parking_lot_protocol.specs.declared.act.CoreAnswer.TheVariants.{Owned, Refused, Released}
use Rattle.parking_lot_protocol.specs.declared.mutex_phase.MutexPhase.{MutexPhase}
use Rattle.parking_lot_protocol.specs.declared.mutex_phase.MutexPhase.TheVariants.{Locking, Trying, Unlocking, Bumping}
use Rattle.parking_lot_protocol.specs.declared.mutex_phase.MutexPhase.TheVariants.{Loads, Locks, Spins, Parks, Enters}
use Rattle.parking_lot_protocol.specs.declared.mutex_phase.MutexPhase.TheVariants.{Checks, Retreats, Appends, Rests}
use Rattle.parking_lot_protocol.specs.declared.mutex_phase.MutexPhase.TheVariants.{Sleeps, TryLoads, TryLocks, Refuses}
use Rattle.parking_lot_protocol.specs.declared.mutex_phase.MutexPhase.TheVariants.{BumpLoads, Relocks, Unlocks, Looks}
use Rattle.parking_lot_protocol.specs.declared.mutex_phase.MutexPhase.TheVariants.{Takes, Stores, Leaves, Wakes}
use Rattle.parking_lot_protocol.specs.declared.mutex_phase.MutexPhase.TheVariants.{Finishes, Ends, Invalid}
use Rattle.parking_lot_protocol.specs.Acts.{Begins, Gives, word_after}
use Rattle.parking_lot_protocol.specs.declared.act.Act.{Act}
use Rattle.parking_lot_protocol.specs.declared.act.Act.TheVariants.{Done}
use Rattle.parking_lot_protocol.specs.MutexTable.{act_of, next_phase}
use Rattle.parking_lot_rules.specs.Classes.{bit}
pub use Rattle.parking_lot_protocol.specs.Positions.{QueuePosition, Listed, Off}

abbrev pub sleeping : QueuePosition → rules.Phase
sleeping Listed = rules.Queued Asleep
sleeping (Off by mark) = rules.Taken by mark Asleep

-- whether one whose call ended so owns the mutex
abbrev pub owns_after : CoreAnswer → Bool
owns_after Owned = true
owns_after Refused = false
owns_after Released = false

abbrev pub owns : MutexPhase → Bool
owns (Unlocking fair) = true
owns Bumping = true
owns BumpLoads = true
owns (Unlocks giving) = true
owns (Looks giving) = true
owns (Ends answer) = owns_after answer
owns phase = false

-- whom a thread has taken, where it has taken v or nobody
abbrev pub taken_of : ℕ → Bool → List ℕ
taken_of v true = v ∷ []
taken_of v false = []

-- What a thread is doing in each phase, in the words of the rules. v: whom it has taken, once it has taken one.
abbrev pub does : QueuePosition → ℕ → MutexPhase → rules.Phase
does spot v Locking = rules.Idle
does spot v Trying = rules.Idle
does spot v (Unlocking fair) = rules.Idle
does spot v Bumping = rules.Idle
does spot v (Loads asking) = rules.Seeks asking.woken
does spot v (Locks asking waiters) = rules.Seeks asking.woken
does spot v (Spins asking) = rules.Seeks asking.woken
does spot v (Parks asking) = rules.Seeks asking.woken
does spot v (Enters woken) = rules.Seeks woken
does spot v (Checks woken) = rules.Enters woken
does spot v (Retreats woken) = rules.Enters woken
does spot v Appends = rules.Checked
does spot v Rests = rules.Queued Fresh
does spot v Sleeps = sleeping spot
does spot v TryLoads = rules.Seeks false
does spot v (TryLocks waiters left) = rules.Seeks false
does spot v Refuses = rules.Seeks false
does spot v BumpLoads = rules.Idle
does spot v Relocks = rules.Idle
does spot v (Unlocks giving) = rules.Idle
does spot v (Looks giving) = rules.Idle
does spot v (Takes giving) = rules.Unlocks []
does spot v (Stores giving taken left) = rules.Unlocks (taken_of v taken)
does spot v (Leaves giving taken handed) = rules.Stored (taken_of v taken)
does spot v (Wakes giving) = rules.Wakes (v ∷ [])
does spot v (Finishes giving) = rules.Wakes []
does spot v (Ends answer) = rules.Idle
does spot v Invalid = rules.Idle

abbrev pub role : QueuePosition → ℕ → MutexPhase → rules.Role
role spot v p = record { owns = owns p; does = does spot v p }

-- What an answer to a core is, as a step of the rules.
pub data Move : Type 0 where
  -- nothing at the mutex changes
  Stays : Move
  -- the thread's own steps
  Makes : (k : rules.Plain) → Move
  Joins : Move
  -- it takes the first waiter; stores, where one was taken or not, the mutex is handed over or not, and waiters are
  -- left or not; and wakes the one that it took
  TakesOne : Move
  Tells : (taken handed left : Bool) → Move
  WakesOne : Move
  -- another wakes it, with the mutex handed over or not
  IsWoken : (handed : Bool) → Move

-- THE TABLE: WHICH STEP IT IS, BY PHASE AND ANSWER

abbrev pub move : ℕ → MutexPhase → ActResult → Move
move v Locking s = Makes rules.Begin
move v Trying s = Makes rules.Begin
move v (Locks a waiters) seen.Exchanged = Makes (rules.Lock a.woken)
move v (Parks a) seen.Exchanged = Makes (rules.Flag a.woken)
move v (Enters woken) s = Makes (rules.Enter woken)
move v (Checks woken) (seen.Word word) = (if word == 3 then Makes (rules.Check woken) else Stays)
move v (Retreats woken) s = Makes (rules.Retreat woken)
move v Appends s = Joins
move v Rests s = Makes rules.Rest
move v Sleeps (seen.Woken token) = IsWoken (token.0 == 1)
move v (TryLocks waiters left) seen.Exchanged = Makes (rules.Lock false)
move v Relocks s = Makes rules.Begin
move v (Unlocks giving) seen.Exchanged = Makes rules.Unlock
move v (Looks giving) s = Makes rules.Look
move v (Takes giving) (seen.Took (Some token) left) = TakesOne
move v (Stores giving taken left) (seen.Stored fair) = Tells taken (taken && (giving.fair || fair)) left
move v (Leaves giving taken handed) s = Makes (rules.Depart false (taken_of v taken))
move v (Wakes giving) s = WakesOne
move v (Finishes giving) s = Makes (rules.Finish false)
move v p s = Stays

-- and what the end of a call is, where it is answered
abbrev pub last_move : MutexPhase → Move
last_move Refuses = Makes rules.Refuse
last_move (Finishes giving) = Makes (rules.Finish false)
last_move p = Stays

-- a word has its two bits and no more
pub record IsWord (w : rules.Word) : Type 0 where
  pub locked : w.locked ≤ 1
  pub parked : w.parked ≤ 1

-- The step k leads from the one role and word to the other, and it may be made: as far as the word goes, where nobody
-- is inside.
pub record IsPlain (k : rules.Plain) (old new : rules.Role) (w : rules.Word) (word : ℕ) : Type 0 where
  pub from : old ≡ rules.from k
  pub to : new ≡ rules.to k
  pub may : rules.May k w (λ c. 0)
  pub written : word ≡ rules.number (rules.written k w)

-- one role became the other, and the word is the same
abbrev pub Keeps : rules.Role → rules.Role → rules.Role → rules.Role → rules.Word → ℕ → Type 0
Keeps old old' new new' w word = (old ≡ old') × (new ≡ new') × (word ≡ rules.number w)

-- what those that are woken were told
abbrev pub mark_of : Bool → Mark
mark_of true = Handed
mark_of false = Normal

-- The move leads from phase p to phase q, at word w, and leaves that number as the word.
abbrev pub IsMove : Move → ℕ → MutexPhase → MutexPhase → rules.Word → ℕ → Type 0
IsMove Stays v p q w word = ((spot : QueuePosition) → role spot v q ≡ role spot v p) × (word ≡ rules.number w)
IsMove (Makes k) v p q w word = IsPlain k (role Listed v p) (role Listed v q) w word
IsMove Joins v p q w word = Keeps (role Listed v p) (rules.doing rules.Checked) (role Listed v q)
    (rules.doing (rules.Queued Fresh)) w word
IsMove TakesOne v p q w word = Keeps (role Listed v p) (rules.doing (rules.Unlocks [])) (role Listed v q)
    (rules.doing (rules.Unlocks (v ∷ []))) w word
IsMove (Tells taken handed left) v p q w word =
    (role Listed v p ≡ rules.doing (rules.Unlocks (taken_of v taken)))
    × (role Listed v q ≡ rules.doing (rules.Stored (taken_of v taken)))
    × (handed ≡ true → taken ≡ true) × (word ≡ rules.number (record { locked = bit handed; parked = bit left }))
IsMove WakesOne v p q w word = Keeps (role Listed v p) (rules.doing (rules.Wakes (v ∷ []))) (role Listed v q)
    (rules.doing (rules.Wakes [])) w word
IsMove (IsWoken handed) v p q w word =
    (by : ℕ) → Keeps (role (Off by (mark_of handed)) v p) (rules.doing (rules.Taken by (mark_of handed) Asleep))
    (role Listed v q)
    (if handed then record { owns = true; does = rules.Idle } else rules.doing (rules.Seeks true)) w word

-- what a core may be told at a word: that it begins, or what its act gives
abbrev pub IsTold : MutexPhase → ℕ → ActResult → Type 0
IsTold Locking word s = Begins s
IsTold Trying word s = Begins s
IsTold (Unlocking fair) word s = Begins s
IsTold Bumping word s = Begins s
IsTold p word s = Gives (act_of p) word s

-- What a core is told at a word is a step of the rules, of the kind that the table says.
abbrev pub Follows : MutexPhase → ActResult → Type 0
Follows p s = (w : rules.Word) (v : ℕ) → IsWord w → IsTold p (rules.number w) s
    → IsMove (move v p s) v p (next_phase p s) w (word_after (act_of p) s (rules.number w))

-- And so is the end of a call: of one that was refused or whose section is over, and of any other nothing is left to be
-- done. Its thread owns the mutex or not, as the answer says.
abbrev pub IsLast : Move → MutexPhase → rules.Role → Type 0
IsLast (Makes k) p new = (w : rules.Word) → IsPlain k (role Listed 0 p) new w (rules.number w)
IsLast move p new = role Listed 0 p ≡ new

abbrev pub Ended : MutexPhase → Act → Type 0
Ended p (Done answer) = IsLast (last_move p) p (record { owns = owns_after answer; does = rules.Idle })
Ended p act = Unit {0}
