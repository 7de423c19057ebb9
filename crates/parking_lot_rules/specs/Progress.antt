-- Who can move, over many locks.
use Rattle.std.specs.Prelude.{◌≡◌, ◌≢◌, ℕ, ◌<◌, ◌⊎◌, Bool, true, false, IsTrue, slice_get, Option, Some, None}
use Rattle.parking_lot_rules.specs.Roles.{Shares, Late, Phase, Idle, Seeks, Queued1, Taken1, Drains, Queued2, Taken2}
use Rattle.parking_lot_rules.specs.Roles.{Owes1, Owes2}
use Rattle.parking_lot_rules.specs.Classes.{total}
use Rattle.parking_lot_rules.specs.Family.{Key, First, Second, key, section, within}
use Rattle.parking_lot_rules.specs.World.{Place, World, role_at, lock_at, family}
use Rattle.parking_lot_rules.specs.Laws.{is_asleep, is_at_work, IsOwner}
use Rattle.parking_lot_rules.specs.Runs.{IsReached}

-- a thread may have to enter a section of the key next
abbrev pub is_before : Phase → Key → Bool
is_before (Seeks mode woken) First = true
is_before (Queued1 mode Late) First = true
is_before (Taken1 mode by mark Late) First = true
is_before Owes1 First = true
is_before (Drains from woken) Second = true
is_before (Queued2 from Late) Second = true
is_before (Taken2 from by Late) Second = true
is_before Owes2 Second = true
is_before phase k = false

-- The thread at this place is in the middle of a call and awake, and no bucket is entered that it may have to enter
-- next.
pub record CanMove (bucket : ℕ → ℕ) (entered : ℕ → Option ℕ) (p : Place) : Type 0 where
  pub work : IsTrue (is_at_work p.does)
  pub free : (k : Key) → IsTrue (is_before p.does k) → entered (bucket (key p.at k)) ≡ None

-- some thread does
abbrev pub SomebodyMoves : (ℕ → ℕ) → World → Type 0
SomebodyMoves bucket w = (u : ℕ) × (p : Place) × (slice_get w.places u ≡ Some p) × CanMove bucket w.entered p

-- Where a thread sleeps at a lock, some thread can move, or one owns that lock and is in no call there.
abbrev pub SleepersAreServed : (ℕ → ℕ) → World → Type 0
SleepersAreServed bucket w = (u : ℕ) (p : Place) → slice_get w.places u ≡ Some p → IsTrue (is_asleep p.does)
    → SomebodyMoves bucket w ⊎ ((v : ℕ) × (q : Place) × (slice_get w.places v ≡ Some q) × IsOwner (role_at p.at q))

-- each thread that owns a lock and sleeps at another sleeps at a higher one
abbrev pub LocksRise : World → Type 0
LocksRise w = (u i : ℕ) (p : Place) → slice_get w.places u ≡ Some p → IsTrue (is_asleep p.does) → IsOwner (role_at i p)
    → i < p.at

-- Then, where a thread sleeps, some thread can move, or one owns a lock and is in no call at all.
abbrev pub NoDeadlock : (ℕ → ℕ) → World → Type 0
NoDeadlock bucket w = LocksRise w → (u : ℕ) (p : Place) → slice_get w.places u ≡ Some p → IsTrue (is_asleep p.does)
    → SomebodyMoves bucket w
    ⊎ ((v i : ℕ) × (q : Place) × (slice_get w.places v ≡ Some q) × (q.does ≡ Idle) × (q.owns i ≢ Shares 0))

-- Whoever is inside a section of a key has entered its bucket, and whoever has entered a bucket is inside a section of
-- one of its keys.
pub record SectionsAreEntered (bucket : ℕ → ℕ) (w : World) : Type 0 where
  pub inside : (i : ℕ) (k : Key) (u : ℕ) → within (family w) i k u ≡ 1 → w.entered (bucket (key i k)) ≡ Some u
  pub entered : (b u : ℕ) → w.entered b ≡ Some u → (i : ℕ) × (k : Key) × (bucket (key i k) ≡ b)
      × (within (family w) i k u ≡ 1)
  pub nobody : (i : ℕ) (k : Key) → w.entered (bucket (key i k)) ≡ None → total (section k) (lock_at w i).roles ≡ 0

-- in every run
abbrev pub InEveryRun : ((ℕ → ℕ) → World → Type 0) → Type 0
InEveryRun P = (bucket : ℕ → ℕ) (recursive : ℕ → Bool) (w : World) → IsReached bucket recursive w → P bucket w
