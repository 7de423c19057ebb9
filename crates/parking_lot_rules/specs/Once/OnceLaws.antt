-- What follows for a one-time initialization, in plain words.
use Rattle.std.specs.Prelude.{◌≡◌, ◌≢◌, ℕ, ◌+◌, ◌<◌, ◌≤◌, ◌⊎◌, Bool, true, false, not, if◌then◌else◌, IsTrue, List, []}
use Rattle.std.specs.Prelude.{◌∷◌, Option, Some, None, slice_get}
use Rattle.std.specs.List.{sum_by}
use Rattle.parking_lot_rules.specs.Classes.{bit}
use Rattle.parking_lot_rules.specs.Lists.{occurs, at_index}
use Rattle.parking_lot_rules.specs.Once.Once.{OnceState, InProgress, Done, Wish, Role, Idle, Seeks, Sleeps, Taken, Runs}
use Rattle.parking_lot_rules.specs.Once.Once.{Ends, Scans, Wakes, waits, may_run, ended, in_progress, Running}
use Rattle.parking_lot_rules.specs.Once.Once.{Succeeding, Busy, Listed, weight, total, wakes, Once, Start, Return, Step}
use Rattle.parking_lot_rules.specs.Once.Once.{Alone, Allowed, after, IsRun, unused}

-- The state says whether a closure runs, and one thread at most runs one.
pub record WordTells (m : Once) : Type 0 where
  pub running : in_progress m.word.state ≡ total Running m.roles
  pub alone : (t u : ℕ) → t ≢ u → 0 < at_index (weight Running) (slice_get m.roles t)
      → at_index (weight Running) (slice_get m.roles u) ≡ 0

-- where no thread is in a call, nobody stands in the list, the parked bit is clear, and no closure runs
abbrev pub NothingIsLeft : Once → Type 0
NothingIsLeft m = ((u : ℕ) (r : Role) → slice_get m.roles u ≡ Some r → r ≡ Idle) → (m.word.parked ≡ 0) × (m.queue ≡ [])
    × (m.word.state ≢ InProgress)

-- what a thread wants that sleeps
abbrev pub sleeps_for : Role → Option Wish
sleeps_for (Sleeps wish) = Some wish
sleeps_for (Taken wish by) = Some wish
sleeps_for r = None

-- a thread sleeps, and wants this
abbrev pub IsAsleep : Once → ℕ → Wish → Type 0
IsAsleep m u wish = (r : Role) × (slice_get m.roles u ≡ Some r) × (sleeps_for r ≡ Some wish)

-- a thread that is to wake this one
abbrev pub IsWaker : Once → ℕ → ℕ → Type 0
IsWaker m by u = (r : Role) × (slice_get m.roles by ≡ Some r) × (0 < occurs u (wakes r))

abbrev pub HasWaker : Once → ℕ → Type 0
HasWaker m u = (by : ℕ) × IsWaker m by u

-- some thread has begun to run its closure, and not stored how that ended
abbrev pub SomebodyRuns : Once → Type 0
SomebodyRuns m = (v : ℕ) × (r : Role) × (slice_get m.roles v ≡ Some r) × (0 < weight Running r)

-- The list holds exactly those that wait. A sleeper stands there once, or was taken by a thread that is still to wake
-- it.
pub record SleepersAreKnown (m : Once) : Type 0 where
  pub queue : (u : ℕ) → occurs u m.queue ≡ at_index (weight Listed) (slice_get m.roles u)
  pub asleep : (u : ℕ) (wish : Wish) → IsAsleep m u wish → (occurs u m.queue ≡ 1) ⊎ HasWaker m u

-- One that sleeps while a closure runs, or waits for one that nobody has begun, or is about to be woken.
abbrev pub NobodyIsForgotten : Once → Type 0
NobodyIsForgotten m = (u : ℕ) (wish : Wish) → IsAsleep m u wish → SomebodyRuns m
    ⊎ (((wish.runs ≡ false) × IsTrue (waits wish m.word.state)) ⊎ HasWaker m u)

-- a thread is in a call there, and awake: it can make a step, unless it stands before a section that another is in
abbrev pub is_at_work : Role → Bool
is_at_work Idle = false
is_at_work (Sleeps wish) = false
is_at_work (Taken wish by) = false
is_at_work r = true

-- where a thread sleeps another is at work; or it only waits, for a closure that nobody has begun
abbrev pub SomebodyIsAtWork : Once → Type 0
SomebodyIsAtWork m = (u : ℕ) (wish : Wish) → IsAsleep m u wish
    → ((v : ℕ) × (r : Role) × (slice_get m.roles v ≡ Some r) × IsTrue (is_at_work r))
    ⊎ ((wish.runs ≡ false) × IsTrue (waits wish m.word.state))

-- one that sleeps where it hasn't to wait any more is about to be woken
abbrev pub SleepersAreWoken : Once → Type 0
SleepersAreWoken m = (u : ℕ) (wish : Wish) → IsAsleep m u wish → waits wish m.word.state ≡ false → HasWaker m u

-- whom a thread is to wake sleeps; and the first of the list does, where a thread goes through it
pub record WakersCanGoOn (m : Once) : Type 0 where
  pub wakes : (t v : ℕ) (left : List ℕ) → slice_get m.roles t ≡ Some (Wakes (v ∷ left)) → (wish : Wish)
      × (slice_get m.roles v ≡ Some (Taken wish t))
  pub takes : (t : ℕ) (well : Bool) (taken : List ℕ) (v : ℕ) → slice_get m.roles t ≡ Some (Scans well taken)
      → slice_get m.queue 0 ≡ Some v → (wish : Wish) × (slice_get m.roles v ≡ Some (Sleeps wish))

-- a thread begins to run its closure, and hands it the state
abbrev pub BeginsToRun : ℕ → Once → Once → Type 0
BeginsToRun t old new =
    (force : Bool) × IsTrue (may_run force old.word.state)
    × (slice_get old.roles t ≡ Some (Seeks (record { runs = true; force = force })))
    × (slice_get new.roles t ≡ Some (Runs old.word.state)) × (new.word.state ≡ InProgress)

-- how the closure of a thread ended that is still to store it
abbrev pub ends_so : Role → Option Bool
ends_so (Ends well) = Some well
ends_so (Scans well taken) = Some well
ends_so r = None

-- a thread stores how its closure ended: it makes the thing done, or poisons it
abbrev pub StoresItsEnd : ℕ → Once → Once → Type 0
StoresItsEnd t old new = (well : Bool) × (r : Role) × (slice_get old.roles t ≡ Some r) × (ends_so r ≡ Some well)
    × (old.word.state ≡ InProgress) × (new.word.state ≡ ended well)

-- all that can become of the state at a step
abbrev pub StateGoes : ℕ → Step → Once → Once → Type 0
StateGoes t step old new = (new.word.state ≡ old.word.state) ⊎ (BeginsToRun t old new ⊎ StoresItsEnd t old new)

-- how often closures were begun
abbrev pub begins : Step → ℕ
begins (Alone (Start force before)) = 1
begins step = 0

-- and how often they returned so
abbrev pub returns : Bool → Step → ℕ
returns well (Alone (Return before end)) = bit (if well then end else not end)
returns well step = 0

abbrev pub how_often : (Step → ℕ) → List (ℕ × Step) → ℕ
how_often f steps = sum_by (λ (e : ℕ × Step). f e.1) steps

abbrev pub is_done : OnceState → ℕ
is_done Done = 1
is_done state = 0

-- Each closure that was begun has returned, or runs. One at most returned well, and none where the thing was done from
-- the beginning; it is done since its thread has stored that.
pub record ClosuresAreCounted (done : Bool) (steps : List (ℕ × Step)) (m : Once) : Type 0 where
  pub counted : how_often begins steps ≡ how_often (returns true) steps + how_often (returns false) steps + total Busy
      m.roles
  pub once : bit done + how_often (returns true) steps ≤ 1
  pub last : bit done + how_often (returns true) steps ≡ is_done m.word.state + total Succeeding m.roles

-- what is done stays done, and no closure is begun any more
abbrev pub DoneStays : Once → Type 0
DoneStays m = m.word.state ≡ Done → (steps : List (ℕ × Step)) (n : Once) → IsRun m steps n → (n.word.state ≡ Done)
    × (how_often begins steps ≡ 0)

-- what holds at every moment, of what was done so far
abbrev pub AlwaysOfSteps : (Bool → List (ℕ × Step) → Once → Type 0) → Type 0
AlwaysOfSteps P = (done : Bool) (threads : ℕ) (steps : List (ℕ × Step)) (m : Once) → IsRun (unused done threads) steps m
    → P done steps m

-- and of every step of every run
abbrev pub ThroughoutOnce : (ℕ → Step → Once → Once → Type 0) → Type 0
ThroughoutOnce P = (done : Bool) (threads : ℕ) (steps : List (ℕ × Step)) (m : Once) (t : ℕ) (step : Step)
    → IsRun (unused done threads) steps m → Allowed t step m → P t step m (after t step m)
