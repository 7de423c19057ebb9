-- Locks of every kind in one family, with buckets in common; and steps of a thread at two of them at one time.
use Rattle.std.specs.Prelude.{◌≡◌, ◌≢◌, ℕ, ◌+◌, ◌<◌, ◌⊎◌, Bool, true, false, List, [], ◌∷◌, ◌++◌, slice_get, Option}
use Rattle.std.specs.Prelude.{Some, None, IsTrue}
use Rattle.parking_lot_rules.specs.Roles.{Stay, Asleep, Late, Role}
use Rattle.parking_lot_rules.specs.Lists.{occurs, at_index}
use Rattle.parking_lot_rules.specs.Laws as rw
use Rattle.parking_lot_rules.specs.Progress.{is_before}
use Rattle.parking_lot_rules.specs.MutexLaws as mutex_laws
use Rattle.parking_lot_rules.specs.Mutex as mutex
use Rattle.parking_lot_rules.specs.Mutex.{Mutex}
use Rattle.parking_lot_rules.specs.Variable as variable
use Rattle.parking_lot_rules.specs.Variable.{Variable}
use Rattle.parking_lot_rules.specs.Family.{Key, First, Second, key, Crossing, Stays, Comes, Goes, Family, Rules, IsFree}
use Rattle.parking_lot_rules.specs.Family.{entered_after, StepOf, SoundFamilyOf}
use Rattle.parking_lot_rules.specs.World.{lock_at}
use Rattle.parking_lot_rules.specs.Runs.{at_rest}
use Rattle.parking_lot_rules.specs.Any.{AnyLock, Rw, Mx, AnyStep, MxStep, any_rules}

pub data EveryLock : Type 0 where
  Of : (lock : AnyLock) → EveryLock
  Cv : (variable : Variable) → EveryLock

pub data EveryStep : Type 0 where
  OfStep : (step : AnyStep) → EveryStep
  CvStep : (step : variable.Step) → EveryStep

-- what a step at a condition variable does to its section
abbrev pub variable_crossing : variable.Step → Crossing
variable_crossing (variable.Alone (variable.Enter k)) = Comes First
variable_crossing (variable.Alone (variable.Reenter k)) = Comes First
variable_crossing (variable.Alone variable.Notify) = Comes First
variable_crossing (variable.Alone (variable.Refuse k)) = Goes First
variable_crossing (variable.Alone (variable.Rest k)) = Goes First
variable_crossing (variable.Alone variable.Go) = Goes First
variable_crossing step = Stays

-- it has one key
abbrev pub variable_inside : Variable → Key → ℕ → ℕ
variable_inside v First u = at_index (variable.weight variable.Inside) (slice_get v.phases u)
variable_inside v Second u = 0

abbrev pub variable_rules : Rules Variable variable.Step
variable_rules = record {
  allowed = λ j t step v. variable.Allowed t step v;
  after = variable.after;
  sound = variable.IsSound;
  inside = variable_inside;
  crosses = variable_crossing;
  idle = λ v t. (p : variable.Phase) → slice_get v.phases t ≡ Some p → p ≡ variable.Idle;
}

-- all kinds: a step is one of its lock's kind
abbrev pub every_allowed : (ℕ → Bool) → ℕ → ℕ → EveryStep → EveryLock → Type 0
every_allowed recursive j t (OfStep step) (Of l) = (any_rules recursive).allowed j t step l
every_allowed recursive j t (CvStep step) (Cv v) = variable.Allowed t step v
every_allowed recursive j t (OfStep step) (Cv v) = ⊥
every_allowed recursive j t (CvStep step) (Of l) = ⊥

abbrev pub every_after : (ℕ → Bool) → ℕ → EveryStep → EveryLock → EveryLock
every_after recursive t (OfStep step) (Of l) = Of ((any_rules recursive).after t step l)
every_after recursive t (CvStep step) (Cv v) = Cv (variable.after t step v)
every_after recursive t (OfStep step) (Cv v) = Cv v
every_after recursive t (CvStep step) (Of l) = Of l

abbrev pub EverySound : (ℕ → Bool) → EveryLock → Type 0
EverySound recursive (Of l) = (any_rules recursive).sound l
EverySound recursive (Cv v) = variable.IsSound v

abbrev pub every_inside : (ℕ → Bool) → EveryLock → Key → ℕ → ℕ
every_inside recursive (Of l) k u = (any_rules recursive).inside l k u
every_inside recursive (Cv v) k u = variable_inside v k u

abbrev pub every_crossing : (ℕ → Bool) → EveryStep → Crossing
every_crossing recursive (OfStep step) = (any_rules recursive).crosses step
every_crossing recursive (CvStep step) = variable_crossing step

abbrev pub IsIdleThere : (ℕ → Bool) → EveryLock → ℕ → Type 0
IsIdleThere recursive (Of l) t = (any_rules recursive).idle l t
IsIdleThere recursive (Cv v) t = variable_rules.idle v t

abbrev pub every_rules : (ℕ → Bool) → Rules EveryLock EveryStep
every_rules recursive = record {
  allowed = every_allowed recursive;
  after = every_after recursive;
  sound = EverySound recursive;
  inside = every_inside recursive;
  crosses = every_crossing recursive;
  idle = IsIdleThere recursive;
}

-- a step, or none
abbrev pub if_any_allowed : {L S : Type 0} → Rules L S → ℕ → ℕ → Option S → L → Type 0
if_any_allowed rules j t None l = Unit {0}
if_any_allowed rules j t (Some step) l = rules.allowed j t step l

abbrev pub if_any_after : {L S : Type 0} → Rules L S → ℕ → Option S → L → L
if_any_after rules t None l = l
if_any_after rules t (Some step) l = rules.after t step l

abbrev pub if_any_crosses : {L S : Type 0} → Rules L S → Option S → Crossing
if_any_crosses rules None = Stays
if_any_crosses rules (Some step) = rules.crosses step

-- two sections are entered together, and left together
abbrev pub AreTogether : Crossing → Crossing → Type 0
AreTogether Stays Stays = Unit {0}
AreTogether (Comes a) (Comes b) = Unit {0}
AreTogether (Goes a) (Goes b) = Unit {0}
AreTogether c d = ⊥

-- Thread t makes a step at lock j and one at lock k at one time, or at one of them while it is at both: it enters both
-- sections, or is inside both, or leaves both.
pub record BothOf {L S : Type 0} (rules : Rules L S) (bucket : ℕ → ℕ) (j k t : ℕ) (one two : Option S)
    (old new : Family L) : Type 0 where
  pub apart : j ≢ k
  pub allowed_one : if_any_allowed rules j t one (old.locks j)
  pub allowed_two : if_any_allowed rules k t two (old.locks k)
  pub free_one : IsFree bucket old.entered j (if_any_crosses rules one)
  pub free_two : IsFree bucket old.entered k (if_any_crosses rules two)
  pub together : AreTogether (if_any_crosses rules one) (if_any_crosses rules two)
  pub idle : (i : ℕ) → i ≢ j → i ≢ k → rules.idle (old.locks i) t
  pub here_one : new.locks j ≡ if_any_after rules t one (old.locks j)
  pub here_two : new.locks k ≡ if_any_after rules t two (old.locks k)
  pub elsewhere : (i : ℕ) → i ≢ j → i ≢ k → new.locks i ≡ old.locks i
  pub entered : (b : ℕ)
      → new.entered b ≡ entered_after bucket (λ x. entered_after bucket old.entered j t (if_any_crosses rules one) x) k
      t (if_any_crosses rules two) b

-- What a thread does at one time.
pub data Act : Type 0 where
  One : (lock : ℕ) → (step : EveryStep) → Act
  Two : (first second : ℕ) → (one two : Option EveryStep) → Act

abbrev pub Acts : (ℕ → ℕ) → (ℕ → Bool) → ℕ → Act → Family EveryLock → Family EveryLock → Type 0
Acts bucket recursive t (One j step) old new = StepOf (every_rules recursive) bucket j t step old new
Acts bucket recursive t (Two j k one two) old new = BothOf (every_rules recursive) bucket j k t one two old new

-- one act of a schedule, and what it leads to
pub record ScheduledAct : Type 0 where
  pub thread : ℕ
  pub act : Act
  pub next : Family EveryLock

-- the acts can be made one after another
abbrev pub Turns : (ℕ → ℕ) → (ℕ → Bool) → Family EveryLock → List ScheduledAct → Family EveryLock → Type 0
Turns bucket recursive f [] g = g ≡ f
Turns bucket recursive f (e ∷ es) g = Acts bucket recursive e.thread e.act f e.next × Turns bucket recursive e.next es g

pub data Kind : Type 0 where
  ReaderWriter : Kind
  Mutual : Kind
  Condition : Kind

-- so many threads, and locks of these kinds, all of them unlocked
abbrev pub resting : ℕ → ℕ → Kind → EveryLock
resting threads i ReaderWriter = Of (Rw (lock_at (at_rest threads) i))
resting threads i Mutual = Of (Mx (mutex.unlocked threads))
resting threads i Condition = Cv (variable.quiet threads)

abbrev pub all_resting : (ℕ → Kind) → ℕ → Family EveryLock
all_resting kinds threads = record { locks = λ i. resting threads i (kinds i); entered = λ b. None }

pub record IsReached (bucket : ℕ → ℕ) (recursive : ℕ → Bool) (f : Family EveryLock) : Type 0 where
  pub kinds : ℕ → Kind
  pub threads : ℕ
  pub turns : List ScheduledAct
  pub run : Turns bucket recursive (all_resting kinds threads) turns f

-- a thread sleeps at a lock, and waits for what its owner or a waker does; one that waits for a condition variable
-- waits for no owner
abbrev pub IsAsleepAt : EveryLock → ℕ → Type 0
IsAsleepAt (Of (Rw l)) u = (r : Role) × (slice_get l.roles u ≡ Some r) × IsTrue (rw.is_asleep r.does)
IsAsleepAt (Of (Mx m)) u = (r : mutex.Role) × (slice_get m.roles u ≡ Some r) × IsTrue (mutex_laws.is_asleep r.does)
IsAsleepAt (Cv v) u = ⊥

abbrev pub is_busy : variable.Phase → Bool
is_busy variable.Idle = false
is_busy (variable.Queued k Asleep) = false
is_busy phase = true

-- it is in the middle of a call there, and awake
abbrev pub WorksAt : EveryLock → ℕ → Type 0
WorksAt (Of (Rw l)) u = (r : Role) × (slice_get l.roles u ≡ Some r) × IsTrue (rw.is_at_work r.does)
WorksAt (Of (Mx m)) u = (r : mutex.Role) × (slice_get m.roles u ≡ Some r) × IsTrue (mutex_laws.is_at_work r.does)
WorksAt (Cv v) u = (p : variable.Phase) × (slice_get v.phases u ≡ Some p) × IsTrue (is_busy p)

abbrev pub mutex_before : mutex.Phase → Key → Bool
mutex_before (mutex.Seeks woken) First = true
mutex_before (mutex.Queued Late) First = true
mutex_before (mutex.Taken by mark Late) First = true
mutex_before phase k = false

abbrev pub variable_before : variable.Phase → Key → Bool
variable_before (variable.Queued k Late) First = true
variable_before phase k = false

-- it may have to enter a section of the key next
abbrev pub IsBefore : EveryLock → ℕ → Key → Type 0
IsBefore (Of (Rw l)) u k = (r : Role) × (slice_get l.roles u ≡ Some r) × IsTrue (is_before r.does k)
IsBefore (Of (Mx m)) u k = (r : mutex.Role) × (slice_get m.roles u ≡ Some r) × IsTrue (mutex_before r.does k)
IsBefore (Cv v) u k = (p : variable.Phase) × (slice_get v.phases u ≡ Some p) × IsTrue (variable_before p k)

-- it owns the lock, and is in no call there
abbrev pub OwnsIdly : EveryLock → ℕ → Type 0
OwnsIdly (Of (Rw l)) u = (r : Role) × (slice_get l.roles u ≡ Some r) × rw.IsOwner r
OwnsIdly (Of (Mx m)) u = (r : mutex.Role) × (slice_get m.roles u ≡ Some r) × (r.owns ≡ true) × (r.does ≡ mutex.Idle)
OwnsIdly (Cv v) u = ⊥

-- some thread is in the middle of a call at some lock, awake, and no bucket is entered that it may have to enter next
abbrev pub SomebodyMoves : (ℕ → ℕ) → Family EveryLock → Type 0
SomebodyMoves bucket f = (i u : ℕ) × WorksAt (f.locks i) u
    × ((k : Key) → IsBefore (f.locks i) u k → f.entered (bucket (key i k)) ≡ None)

-- where a thread sleeps at a lock, some thread can move, or one owns that lock and is in no call there
abbrev pub SleepersAreServed : (ℕ → ℕ) → Family EveryLock → Type 0
SleepersAreServed bucket f = (i u : ℕ) → IsAsleepAt (f.locks i) u → SomebodyMoves bucket f
    ⊎ ((v : ℕ) × OwnsIdly (f.locks i) v)

-- Where each thread sleeps at one lock at most, and one that owns a lock sleeps at a higher one: some thread can move,
-- or one owns a lock, is in no call there, and sleeps nowhere. `at`: for each thread the one lock.
abbrev pub NoDeadlock : (ℕ → ℕ) → Family EveryLock → Type 0
NoDeadlock bucket f = (at : List ℕ) → ((i u : ℕ) → IsAsleepAt (f.locks i) u → slice_get at u ≡ Some i)
    → ((i j u : ℕ) → IsAsleepAt (f.locks i) u → OwnsIdly (f.locks j) u → j < i)
    → (i u : ℕ) → IsAsleepAt (f.locks i) u → SomebodyMoves bucket f
    ⊎ ((v j : ℕ) × OwnsIdly (f.locks j) v × ((x : ℕ) → IsAsleepAt (f.locks x) v → ⊥))

-- what holds in every run
abbrev pub InEveryRun : ((ℕ → ℕ) → (ℕ → Bool) → Family EveryLock → Type 0) → Type 0
InEveryRun P = (bucket : ℕ → ℕ) (recursive : ℕ → Bool) (f : Family EveryLock) → IsReached bucket recursive f
    → P bucket recursive f

-- each lock is sound, and so are the marks that say who has entered each bucket
abbrev pub IsSoundEverywhere : (ℕ → ℕ) → (ℕ → Bool) → Family EveryLock → Type 0
IsSoundEverywhere bucket recursive f = SoundFamilyOf (EverySound recursive) (every_inside recursive) bucket f

pub record NobodyIsForgotten (bucket : ℕ → ℕ) (recursive : ℕ → Bool) (f : Family EveryLock) : Type 0 where
  pub served : SleepersAreServed bucket f
  pub alive : NoDeadlock bucket f

-- A notifier inside both sections takes the first waiter off a condition variable's list, and puts it at the end of the
-- list of the mutex that it waits with.
abbrev pub Requeues : (ℕ → ℕ) → (ℕ → Bool) → (cv mx t v : ℕ) → Bool → Stay → Family EveryLock → Family EveryLock
    → Type 0
Requeues bucket recursive cv mx t v owns stay old new =
    Acts bucket recursive t
    (Two cv mx (Some (CvStep (variable.Release v mx stay))) (Some (OfStep (MxStep (mutex.Requeue owns v))))) old new

-- Then it stands in that list alone, once, and the two lists are otherwise as they were; and what the word of the
-- variable shows, is the mutex that each of its waiters waits with.
pub record IsRequeued (cv mx v : ℕ) (old new : Family EveryLock) : Type 0 where
  pub variable : Variable
  pub mutex : Mutex
  pub was : old.locks cv ≡ Cv variable
  pub was_mutex : old.locks mx ≡ Of (Mx mutex)
  pub variable_after : Variable
  pub mutex_after : Mutex
  pub is : new.locks cv ≡ Cv variable_after
  pub is_mutex : new.locks mx ≡ Of (Mx mutex_after)
  pub left : variable.queue ≡ v ∷ variable_after.queue
  pub joined : mutex_after.queue ≡ mutex.queue ++ v ∷ []
  pub gone : occurs v variable_after.queue ≡ 0
  pub once : occurs v mutex_after.queue ≡ 1
  pub shown : variable.word ≡ mx + 1

abbrev pub RequeuesAreSeenAtBoth : (ℕ → ℕ) → (ℕ → Bool) → Family EveryLock → Type 0
RequeuesAreSeenAtBoth bucket recursive f = (cv mx t v : ℕ) (owns : Bool) (stay : Stay) (g : Family EveryLock)
    → Requeues bucket recursive cv mx t v owns stay f g
    → IsRequeued cv mx v f g × IsSoundEverywhere bucket recursive g

-- every act keeps every lock sound, and the marks
abbrev pub TwoKeepSound : Type 0
TwoKeepSound = (bucket : ℕ → ℕ) (recursive : ℕ → Bool) (t : ℕ) (act : Act) (old new : Family EveryLock)
    → IsSoundEverywhere bucket recursive old → Acts bucket recursive t act old new
    → IsSoundEverywhere bucket recursive new
