-- Reader-writer locks and mutexes in one family, with buckets in common.
use Rattle.std.specs.Prelude.{◌≡◌, ℕ, Bool, slice_get, Some}
use Rattle.parking_lot_rules.specs.Lists.{at_index}
use Rattle.parking_lot_rules.specs.Lock.{Lock, IsSound}
use Rattle.parking_lot_rules.specs.Steps.{Step, Allowed, after}
use Rattle.parking_lot_rules.specs.Roles.{Role, Idle}
use Rattle.parking_lot_rules.specs.Family.{Key, First, Second, Crossing, Stays, Comes, Goes, crossing, Family, Rules}
use Rattle.parking_lot_rules.specs.Family.{StepOf, SoundFamilyOf, rw_inside}
use Rattle.parking_lot_rules.specs.Mutex as mutex
use Rattle.parking_lot_rules.specs.Mutex.{Mutex}

pub data AnyLock : Type 0 where
  Rw : (lock : Lock) → AnyLock
  Mx : (lock : Mutex) → AnyLock

pub data AnyStep : Type 0 where
  RwStep : (step : Step) → AnyStep
  MxStep : (step : mutex.Step) → AnyStep

-- what a step at a mutex does to its section
abbrev pub mutex_crossing : mutex.Step → Crossing
mutex_crossing (mutex.Alone (mutex.Enter c)) = Comes First
mutex_crossing (mutex.Alone mutex.Reenter) = Comes First
mutex_crossing (mutex.Alone (mutex.ReenterTaken by how)) = Comes First
mutex_crossing (mutex.Alone mutex.Look) = Comes First
mutex_crossing (mutex.Alone (mutex.Come o)) = Comes First
mutex_crossing (mutex.Alone (mutex.Retreat c)) = Goes First
mutex_crossing (mutex.Alone mutex.Rest) = Goes First
mutex_crossing (mutex.Alone mutex.Leave) = Goes First
mutex_crossing (mutex.Alone (mutex.Resume by)) = Goes First
mutex_crossing (mutex.Alone (mutex.Receive by)) = Goes First
mutex_crossing (mutex.Alone (mutex.Depart o us)) = Goes First
mutex_crossing (mutex.Alone (mutex.GoUnmarked o)) = Goes First
mutex_crossing (mutex.Alone (mutex.Go o)) = Goes First
mutex_crossing step = Stays

-- how much a thread is inside a section of a mutex, which has one key
abbrev pub mutex_inside : Mutex → Key → ℕ → ℕ
mutex_inside m First u = at_index (mutex.weight mutex.Inside) (slice_get m.roles u)
mutex_inside m Second u = 0

abbrev pub mutex_rules : Rules Mutex mutex.Step
mutex_rules = record {
  allowed = λ j t step m. mutex.Allowed t step m;
  after = mutex.after;
  sound = mutex.IsSound;
  inside = mutex_inside;
  crosses = mutex_crossing;
  idle = λ m t. (r : mutex.Role) → slice_get m.roles t ≡ Some r → r.does ≡ mutex.Idle;
}

-- both kinds: a step is one of its lock's kind
abbrev pub any_allowed : (ℕ → Bool) → ℕ → ℕ → AnyStep → AnyLock → Type 0
any_allowed recursive j t (RwStep step) (Rw l) = Allowed (recursive j) t step l
any_allowed recursive j t (MxStep step) (Mx m) = mutex.Allowed t step m
any_allowed recursive j t (RwStep step) (Mx m) = ⊥
any_allowed recursive j t (MxStep step) (Rw l) = ⊥

abbrev pub any_after : ℕ → AnyStep → AnyLock → AnyLock
any_after t (RwStep step) (Rw l) = Rw (after t step l)
any_after t (MxStep step) (Mx m) = Mx (mutex.after t step m)
any_after t (RwStep step) (Mx m) = Mx m
any_after t (MxStep step) (Rw l) = Rw l

abbrev pub AnySound : AnyLock → Type 0
AnySound (Rw l) = IsSound l
AnySound (Mx m) = mutex.IsSound m

abbrev pub any_inside : AnyLock → Key → ℕ → ℕ
any_inside (Rw l) k u = rw_inside l k u
any_inside (Mx m) k u = mutex_inside m k u

abbrev pub any_crossing : AnyStep → Crossing
any_crossing (RwStep step) = crossing step
any_crossing (MxStep step) = mutex_crossing step

abbrev pub IsIdleAt : AnyLock → ℕ → Type 0
IsIdleAt (Rw l) t = (r : Role) → slice_get l.roles t ≡ Some r → r.does ≡ Idle
IsIdleAt (Mx m) t = (r : mutex.Role) → slice_get m.roles t ≡ Some r → r.does ≡ mutex.Idle

abbrev pub any_rules : (ℕ → Bool) → Rules AnyLock AnyStep
any_rules recursive =
    record {
      allowed = any_allowed recursive;
      after = any_after;
      sound = AnySound;
      inside = any_inside;
      crosses = any_crossing;
      idle = IsIdleAt;
    }

-- Each step at one lock keeps such a family sound: each lock, and the marks of the buckets.
abbrev pub FamiliesStaySound : Type 0
FamiliesStaySound = (recursive : ℕ → Bool) (bucket : ℕ → ℕ) (j t : ℕ) (step : AnyStep) (old new : Family AnyLock)
    → SoundFamilyOf AnySound any_inside bucket old
    → StepOf (any_rules recursive) bucket j t step old new → SoundFamilyOf AnySound any_inside bucket new
