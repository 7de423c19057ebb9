-- Many locks: a family of locks, and for each bucket of keys who has entered it.
use Rattle.std.specs.Prelude.{◌≡◌, ◌≢◌, ℕ, ◌+◌, ◌*◌, Bool, if◌then◌else◌, ◌==◌, Option, Some, None, slice_get}
use Rattle.parking_lot_rules.specs.Roles.{Idle, Role}
use Rattle.parking_lot_rules.specs.Classes.{Class, Inside1, Inside2, weighs}
use Rattle.parking_lot_rules.specs.Plain.{Enter1, Reenter1, ReenterTaken1, LookExclusive, LookUpgradable, LookOwed}
use Rattle.parking_lot_rules.specs.Plain.{Enter2, Reenter2, ReenterTaken2, Look2, Retreat1, Rest1, Leave1, Resume1}
use Rattle.parking_lot_rules.specs.Plain.{ReceiveShared, ReceivePending, ReceiveUpgradable, Depart1, Retreat2, Rest2}
use Rattle.parking_lot_rules.specs.Plain.{Resume2, Leave2, Depart2}
use Rattle.parking_lot_rules.specs.Steps.{Step, Alone, Allowed, after}
use Rattle.parking_lot_rules.specs.Lock.{Lock, IsSound}

-- which of a lock's two keys
pub data Key : Type 0 where
  First : Key
  Second : Key

-- lock i has the keys 2i and 2i + 1
abbrev pub key : ℕ → Key → ℕ
key i First = 2 * i
key i Second = 2 * i + 1

-- who is inside a section of it
abbrev pub section : Key → Class
section First = Inside1
section Second = Inside2

-- what a step does to the sections: it enters one, leaves one, or neither
pub data Crossing : Type 0 where
  Stays : Crossing
  Comes : (k : Key) → Crossing
  Goes : (k : Key) → Crossing

abbrev pub crossing : Step → Crossing
crossing (Alone (Enter1 m c)) = Comes First
crossing (Alone (Reenter1 m)) = Comes First
crossing (Alone (ReenterTaken1 m by how)) = Comes First
crossing (Alone LookExclusive) = Comes First
crossing (Alone LookUpgradable) = Comes First
crossing (Alone (LookOwed o)) = Comes First
crossing (Alone (Enter2 f c)) = Comes Second
crossing (Alone (Reenter2 f)) = Comes Second
crossing (Alone (ReenterTaken2 f by)) = Comes Second
crossing (Alone (Look2 n)) = Comes Second
crossing (Alone (Retreat1 m c)) = Goes First
crossing (Alone (Rest1 m)) = Goes First
crossing (Alone Leave1) = Goes First
crossing (Alone (Resume1 m by)) = Goes First
crossing (Alone (ReceiveShared by)) = Goes First
crossing (Alone (ReceivePending by)) = Goes First
crossing (Alone (ReceiveUpgradable by)) = Goes First
crossing (Alone (Depart1 o us)) = Goes First
crossing (Alone (Retreat2 f c)) = Goes Second
crossing (Alone (Rest2 f)) = Goes Second
crossing (Alone (Resume2 f by)) = Goes Second
crossing (Alone (Leave2 f)) = Goes Second
crossing (Alone (Depart2 n us)) = Goes Second
crossing step = Stays

-- The locks by number, whatever a lock is, and for each bucket the thread that has entered it.
pub record Family (L : Type 0) : Type 0 where
  pub locks : ℕ → L
  pub entered : ℕ → Option ℕ

-- a function with another value at one place
abbrev pub put : {A : Type 0} → (ℕ → A) → ℕ → A → ℕ → A
put f j x i = if i == j then x else f i

-- a section is entered only where nobody has entered its bucket
abbrev pub IsFree : (ℕ → ℕ) → (ℕ → Option ℕ) → ℕ → Crossing → Type 0
IsFree bucket entered j Stays = Unit {0}
IsFree bucket entered j (Comes k) = entered (bucket (key j k)) ≡ None
IsFree bucket entered j (Goes k) = Unit {0}

-- who has entered a bucket once thread t has crossed at lock j
abbrev pub entered_after : (ℕ → ℕ) → (ℕ → Option ℕ) → ℕ → ℕ → Crossing → ℕ → Option ℕ
entered_after bucket entered j t Stays b = entered b
entered_after bucket entered j t (Comes k) b = put entered (bucket (key j k)) (Some t) b
entered_after bucket entered j t (Goes k) b = put entered (bucket (key j k)) None b

-- What is to be known of a kind of locks: when a thread may make a step at the lock of a number, the lock after it,
-- what holds of a lock at every moment, how much a thread is inside a section of a key, what a step does to the
-- sections, and when a thread is doing nothing there.
pub record Rules (L S : Type 0) : Type 1 where
  pub allowed : ℕ → ℕ → S → L → Type 0
  pub after : ℕ → S → L → L
  pub sound : L → Type 0
  pub inside : L → Key → ℕ → ℕ
  pub crosses : S → Crossing
  pub idle : L → ℕ → Type 0

-- Thread t makes a step at lock j: that lock changes as by itself, and no other. `bucket` says which bucket a key is
-- in.
pub record StepOf {L S : Type 0} (rules : Rules L S) (bucket : ℕ → ℕ) (j t : ℕ) (step : S) (old new : Family L) : Type 0
  where
    pub allowed : rules.allowed j t step (old.locks j)
    pub free : IsFree bucket old.entered j (rules.crosses step)
    -- the thread is doing nothing at another lock
    pub idle : (i : ℕ) → i ≢ j → rules.idle (old.locks i) t
    pub here : new.locks j ≡ rules.after t step (old.locks j)
    pub elsewhere : (i : ℕ) → i ≢ j → new.locks i ≡ old.locks i
    pub entered : (b : ℕ) → new.entered b ≡ entered_after bucket old.entered j t (rules.crosses step) b

-- Each lock is sound, who is inside a section has entered its bucket, and who has entered a bucket is inside a section
-- there.
pub record SoundFamilyOf {L : Type 0} (sound_lock : L → Type 0) (inside : L → Key → ℕ → ℕ) (bucket : ℕ → ℕ)
    (f : Family L) : Type 0 where
  pub sound : (i : ℕ) → sound_lock (f.locks i)
  pub entered : (i : ℕ) (k : Key) (u : ℕ) → inside (f.locks i) k u ≡ 1 → f.entered (bucket (key i k)) ≡ Some u
  pub is_inside : (b u : ℕ) → f.entered b ≡ Some u → (i : ℕ) × (k : Key) × (bucket (key i k) ≡ b)
      × (inside (f.locks i) k u ≡ 1)

-- reader-writer locks, some of which are recursive
abbrev pub rw_inside : Lock → Key → ℕ → ℕ
rw_inside l k u = weighs (section k) (slice_get l.roles u)

abbrev pub rw_rules : (ℕ → Bool) → Rules Lock Step
rw_rules recursive = record {
  allowed = λ j t step l. Allowed (recursive j) t step l;
  after = after;
  sound = IsSound;
  inside = rw_inside;
  crosses = crossing;
  idle = λ l t. (r : Role) → slice_get l.roles t ≡ Some r → r.does ≡ Idle;
}

abbrev pub FamilyStep : (ℕ → ℕ) → (ℕ → Bool) → ℕ → ℕ → Step → Family Lock → Family Lock → Type 0
FamilyStep bucket recursive j t step old new = StepOf (rw_rules recursive) bucket j t step old new

abbrev pub within : Family Lock → ℕ → Key → ℕ → ℕ
within f i k u = rw_inside (f.locks i) k u

abbrev pub IsSoundFamily : (ℕ → ℕ) → Family Lock → Type 0
IsSoundFamily bucket f = SoundFamilyOf IsSound rw_inside bucket f
