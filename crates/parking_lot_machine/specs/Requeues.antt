-- What it is to move waiters of a condition variable into the list of a mutex: by the rules, and in a machine of locks.
use Rattle.std.specs.Prelude.{◌≡◌, ◌≢◌, ℕ, ◌+◌, ◌*◌, ◌%◌, ◌<◌, ◌≤◌, ◌==◌, ◌&&◌, ◌||◌, not, Bool, true, false, List, []}
use Rattle.std.specs.Prelude.{◌∷◌, ◌++◌, if◌then◌else◌, length, map, Option, None, is_some, slice_get, slice_set, Some}
use Rattle.std.specs.List.{list_any}
use Rattle.parking_lot_core_model.specs.declared.place.Phase.TheVariants as phase
use Rattle.parking_lot_core_model.specs.Machine.{Machine, any_phase, closed, enter_fault, in_phase, joined, opened}
use Rattle.parking_lot_core_model.specs.Machine.{step_fault}
use Rattle.parking_lot_core_model.specs.Places.{may_check, may_join}
use Rattle.parking_lot_protocol.specs.MutexTable.{begins}
use Rattle.parking_lot_protocol.specs.declared.mutex_phase.MutexPhase.{MutexPhase}
use Rattle.parking_lot_protocol.specs.declared.mutex_phase.MutexPhase.TheVariants as m
use Rattle.parking_lot_rules.specs.Roles.{Asleep}
use Rattle.parking_lot_rules.specs.MutexOwners as owners
use Rattle.parking_lot_rules.specs.Mutex.{Alone, Called, Come, Depart, Finish, Follow, Go, Idle, Inside, MarkParked}
use Rattle.parking_lot_rules.specs.Mutex.{Mutex, Pull, Queued, Requeue, Runs, Seeks, Step, Wake, away, doing, total}
use Rattle.parking_lot_machine_calls.specs.declared.calls.LockCall.{LockCall}
use Rattle.parking_lot_machine_calls.specs.declared.calls.LockCall.TheVariants as call
use Rattle.parking_lot_machine_calls.specs.declared.open_call.Call.{Call}
use Rattle.parking_lot_machine_calls.specs.declared.seat.Core.{Core}
use Rattle.parking_lot_machine_calls.specs.declared.seat.Core.TheVariants as core
use Rattle.parking_lot_machine_calls.specs.declared.seat.QueuePosition.TheVariants as spot
use Rattle.parking_lot_machine_calls.specs.Kinds.{AsMutex, manner_of}
use Rattle.parking_lot_machine.specs.Machines.{may_begin}
use Rattle.parking_lot_machine.specs.SoundLaws.{IsStepAt}
use Rattle.parking_lot_machine.specs.Ranks.{steps_left}
use Rattle.parking_lot_machine.specs.RowActs.{with_call, with_lot, with_word}
use Rattle.parking_lot_machine.specs.RowFits.{FitsTogether}
use Rattle.parking_lot_machine.specs.Rows.{State, call_at, first_key, lock_at, mutex_at, hold_at, open_at, word_at}
use Rattle.parking_lot_machine_calls.specs.CallRoles.{owns_mutex}

-- BY THE RULES

-- Thread v sleeps at the end of the list, as the parked bit says.
abbrev pub filed : Mutex → ℕ → Mutex
filed n v = record n {
  word = record n.word { parked = 1 };
  roles = slice_set n.roles v (doing (Queued Asleep));
  queue = n.queue ++ v ∷ [];
}

-- Thread v was woken to try again.
abbrev pub roused : Mutex → ℕ → Mutex
roused n v = record n { roles = slice_set n.roles v (doing (Seeks true)) }

-- one after the other
abbrev pub all_filed : Mutex → List ℕ → Mutex
all_filed n [] = n
all_filed n (v ∷ vs) = all_filed (filed n v) vs

-- each is in no call and owns nothing when its turn comes, and none is thread `by`
abbrev pub AreAway : Mutex → ℕ → List ℕ → Type 0
AreAway n by [] = Unit {0}
AreAway n by (v ∷ vs) = (v ≢ by) × (slice_get n.roles v ≡ Some away) × AreAway (filed n v) by vs

-- Thread `by` comes, sets the parked bit, moves each into the list, and goes.
abbrev pub requeue_run : ℕ → Bool → List ℕ → List (ℕ × Step)
requeue_run by o vs = (by, Alone (Come o)) ∷ (by, Alone (MarkParked o)) ∷
    (map (λ v. (by, Requeue o v)) vs ++ (by, Alone (Go o)) ∷ [])

-- Or it comes, takes the first of them, moves each of the rest behind it, leaves, and wakes the one that it took.
abbrev pub pull_run : ℕ → Bool → ℕ → List ℕ → List (ℕ × Step)
pull_run by o v vs =
    (by, Alone (Come o)) ∷ (by, Pull o v) ∷
    (map (λ w. (by, Follow o v Asleep w)) vs ++ (by, Alone (Depart o (v ∷ []))) ∷ (by, Wake o v [] Asleep) ∷
    (by, Alone (Finish o)) ∷ [])

-- thread `by` may come: it is in no call there, owning the mutex or not, and nobody is in a section
pub record MayCome (n : Mutex) (by : ℕ) (o : Bool) : Type 0 where
  pub here : slice_get n.roles by ≡ Some (record { owns = o; does = Idle })
  pub free : total Inside n.roles ≡ 0

-- To move waiters, one after the other, is a run of the steps of the one that moves them: all into the list, where the
-- mutex is locked; and else the first is woken, and the rest stand behind it.
pub record RequeuesAreRuns (n : Mutex) (by : ℕ) (o : Bool) : Type 0 where
  pub locked : (v : ℕ) (vs : List ℕ) → MayCome n by o → n.word.locked ≡ 1 → AreAway n by (v ∷ vs)
      → Runs n (requeue_run by o (v ∷ vs)) (all_filed n (v ∷ vs))
  pub unlocked : (v : ℕ) (vs : List ℕ) → MayCome n by o → v ≢ by → slice_get n.roles v ≡ Some away
      → AreAway (roused n v) by vs → Runs n (pull_run by o v vs) (all_filed (roused n v) vs)

abbrev pub AllRequeuesAreRuns : Type 0
AllRequeuesAreRuns = (n : Mutex) (by : ℕ) (o : Bool) → RequeuesAreRuns n by o

-- IN A MACHINE

-- what it asks for there, by whether its moment may pass
abbrev pub lock_ask : Bool → LockCall
lock_ask timed = if timed then call.LockUntil else call.Lock

-- the call of one that sleeps in the list of a mutex, and of one that was woken from there to try again
abbrev pub sleeping_call : ℕ → Bool → Call
sleeping_call lock timed =
    record {
      lock = lock;
      others = 0;
      core = core.Mutex (record { phase = m.Sleeps });
      spot = spot.Listed;
      asked = lock_ask timed;
    }

abbrev pub retrying_call : ℕ → Bool → Call
retrying_call lock timed =
    record {
      lock = lock;
      others = 0;
      core = core.Mutex (record { phase = m.Loads (begins true) });
      spot = spot.Listed;
      asked = lock_ask timed;
    }

-- the lot once a thread has joined a list, in a section of its own
abbrev pub lot_with : Machine → ℕ → ℕ → Machine
lot_with l v key =
    closed (joined (in_phase (in_phase (opened l (Some v) key) key phase.Valid) key phase.Joined) v key
    (record { 0 = 0 }) false) key false

-- the lot refuses none of its steps
pub record MayJoin (l : Machine) (v key : ℕ) : Type 0 where
  pub enters : enter_fault l v key ≡ None
  pub checks : step_fault may_check (opened l (Some v) key) v ≡ None
  pub joins : step_fault may_join (in_phase (opened l (Some v) key) key phase.Valid) v ≡ None
  pub leaves : step_fault any_phase
      (joined (in_phase (in_phase (opened l (Some v) key) key phase.Valid) key phase.Joined) v key (record { 0 = 0 })
      false) v ≡ None

-- A thread that was in no call sleeps at the end of a mutex's list, as if it had asked for the mutex and gone to sleep;
-- the parked bit is set.
abbrev pub taken_in : State → ℕ → ℕ → Bool → State
taken_in s v lock timed = with_lot (with_word (with_call s v (sleeping_call lock timed)) lock (word_at s lock % 2 + 2))
    (lot_with s.lot v (first_key lock))

-- Or it is awake, as if it had slept there and had been woken to try again.
abbrev pub roused_in : State → ℕ → ℕ → Bool → State
roused_in s v lock timed = with_call s v (retrying_call lock timed)

-- Somebody owns the mutex, or was called, and is about to try again: whoever sleeps in its list isn't forgotten.
abbrev pub IsAttended : State → ℕ → Type 0
IsAttended s lock = 1 ≤ (mutex_at s lock).word.locked + total Called (mutex_at s lock).roles

-- one at that mutex that was woken, and is about to try again
abbrev pub phase_retries : MutexPhase → Bool
phase_retries (m.Loads a) = a.woken
phase_retries (m.Locks a waiters) = a.woken
phase_retries (m.Spins a) = a.woken
phase_retries (m.Parks a) = a.woken
phase_retries (m.Enters woken) = woken
phase_retries (m.Checks woken) = woken
phase_retries (m.Retreats woken) = woken
phase_retries p = false

abbrev pub core_retries : Core → Bool
core_retries (core.Mutex k) = phase_retries k.phase
core_retries k = false

abbrev pub retries_at : ℕ → Option Call → Bool
retries_at lock None = false
retries_at lock (Some c) = c.lock == lock && core_retries c.core

-- Whether a thread may be woken to try again, and whether it may be taken into the list: it may ask for the mutex, no
-- section is open in the bucket of the mutex's list, and for the list the mutex is locked, or one at it is about to try
-- again.
abbrev pub may_rouse_in : State → ℕ → ℕ → Bool
may_rouse_in s v lock = may_begin s v lock call.Lock && not (is_some (open_at s (first_key lock)))

abbrev pub may_take_in : State → ℕ → ℕ → Bool
may_take_in s v lock = may_rouse_in s v lock && (word_at s lock % 2 == 1 || list_any (retries_at lock) s.calls)

pub record MayTakeIn (s : State) (v lock : ℕ) : Type 0 where
  pub may : may_rouse_in s v lock ≡ true
  pub attended : IsAttended s lock

-- any thread in no call, but for v, whether it owns the mutex or not: it is the one that moves v
abbrev pub ByAny : State → ℕ → ℕ → (ℕ → Bool → Type 0) → Type 0
ByAny s v lock P = (by : ℕ) → by ≢ v → by < length s.calls → call_at s by ≡ None → P by (owns_mutex (hold_at s by lock))

-- Waiter v was taken into the list: the machine fits together, the mutex has it at the end of its list, all other locks
-- are as they were; where the mutex is locked this is a run of the rules, and nobody is in a section then. It adds 25
-- steps at most, whoever is stepped.
pub record IsTakenIn (v lock : ℕ) (timed : Bool) (s u : State) : Type 0 where
  pub became : u ≡ taken_in s v lock timed
  pub fits : FitsTogether u
  pub kind : manner_of (slice_get s.kinds lock) ≡ Some AsMutex
  pub here : mutex_at u lock ≡ filed (mutex_at s lock) v
  pub away : slice_get (mutex_at s lock).roles v ≡ Some away
  pub elsewhere : (i : ℕ) → i ≢ lock → lock_at u i ≡ lock_at s i
  pub free : open_at u (first_key lock) ≡ None
  pub attended : IsAttended u lock
  pub comes : ByAny s v lock (λ by o. MayCome (mutex_at s lock) by o)
  pub runs : (mutex_at s lock).word.locked ≡ 1
      → ByAny s v lock (λ by o. Runs (mutex_at s lock) (requeue_run by o (v ∷ [])) (mutex_at u lock))
  pub costs : (t : ℕ) → steps_left u t ≤ steps_left s t + 25

-- Waiter v is about to try again.
pub record IsRousedIn (v lock : ℕ) (timed : Bool) (s u : State) : Type 0 where
  pub became : u ≡ roused_in s v lock timed
  pub fits : FitsTogether u
  pub kind : manner_of (slice_get s.kinds lock) ≡ Some AsMutex
  pub here : mutex_at u lock ≡ roused (mutex_at s lock) v
  pub away : slice_get (mutex_at s lock).roles v ≡ Some away
  pub elsewhere : (i : ℕ) → i ≢ lock → lock_at u i ≡ lock_at s i
  pub free : open_at u (first_key lock) ≡ None
  pub attended : IsAttended u lock
  pub comes : ByAny s v lock (λ by o. MayCome (mutex_at s lock) by o)
  pub runs : ByAny s v lock (λ by o. Runs (mutex_at s lock) (pull_run by o v []) (mutex_at u lock))
  pub costs : (t : ℕ) → steps_left u t ≤ steps_left s t + 51

-- SEVERAL OF THEM

-- one after the other, each with whether its moment may pass
abbrev pub AreTakenIn : ℕ → List (ℕ × Bool) → State → State → Type 0
AreTakenIn lock [] s u = u ≡ s
AreTakenIn lock (e ∷ es) s u = (x : State) × IsTakenIn e.0 lock e.1 s x × AreTakenIn lock es x u

abbrev pub AreOthers : ℕ → List (ℕ × Bool) → Type 0
AreOthers by [] = Unit {0}
AreOthers by (e ∷ es) = (e.0 ≢ by) × AreOthers by es

abbrev pub waiters : List (ℕ × Bool) → List ℕ
waiters es = map (λ e. e.0) es

-- thread `by` is in no call, and none of those
pub record MayMove (s : State) (by : ℕ) (es : List (ℕ × Bool)) : Type 0 where
  pub low : by < length s.calls
  pub alone : call_at s by ≡ None
  pub others : AreOthers by es

-- To move several is one run of the steps of the one that moves them: all into the list, where the mutex is locked; and
-- else the first is woken, and the rest stand behind it. All other locks are as they were, and each adds so many steps
-- at most.
pub record MovesAreRuns : Type 0 where
  pub locked : (s u : State) (lock by : ℕ) (e : ℕ × Bool) (es : List (ℕ × Bool)) → MayMove s by (e ∷ es)
      → (mutex_at s lock).word.locked ≡ 1 → AreTakenIn lock (e ∷ es) s u
      → Runs (mutex_at s lock) (requeue_run by (owns_mutex (hold_at s by lock)) (waiters (e ∷ es))) (mutex_at u lock)
  pub unlocked : (s x u : State) (lock by : ℕ) (e : ℕ × Bool) (es : List (ℕ × Bool)) → MayMove s by (e ∷ es)
      → IsRousedIn e.0 lock e.1 s x → AreTakenIn lock es x u
      → Runs (mutex_at s lock) (pull_run by (owns_mutex (hold_at s by lock)) e.0 (waiters es)) (mutex_at u lock)
  pub elsewhere : (s u : State) (lock : ℕ) (es : List (ℕ × Bool)) → AreTakenIn lock es s u → (i : ℕ) → i ≢ lock
      → lock_at u i ≡ lock_at s i
  pub costs : (s u : State) (lock : ℕ) (es : List (ℕ × Bool)) → AreTakenIn lock es s u → (t : ℕ)
      → steps_left u t ≤ steps_left s t + 25 * length es

-- Whichever thread moves a waiter, it is a case of a mutex without a word: one that is taken in is moved into the list,
-- and one that is woken changes neither owners nor list.
abbrev pub IsCaseOf : ℕ → owners.Case → State → State → ℕ → Type 0
IsCaseOf t case s u lock = owners.IsCase t case (owners.owners (mutex_at s lock)) (owners.owners (mutex_at u lock))
    × IsStepAt t lock s u

pub record MovesAreCases : Type 0 where
  pub takes : (s u : State) (v lock t : ℕ) (timed : Bool) → IsTakenIn v lock timed s u
      → IsCaseOf t (owners.Move v) s u lock
  pub rouses : (s u : State) (v lock t : ℕ) (timed : Bool) → IsRousedIn v lock timed s u
      → IsCaseOf t owners.Nothing s u lock
