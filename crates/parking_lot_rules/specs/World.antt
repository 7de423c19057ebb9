-- Threads and locks: each thread is at one lock at a time, and may own many.
use Rattle.std.specs.Prelude.{◌≡◌, ℕ, zero, suc, Bool, true, false, ◌⊎◌, if◌then◌else◌, ◌==◌, List, [], ◌∷◌, ◌++◌, map}
use Rattle.std.specs.Prelude.{Option, slice_get, Some}
use Rattle.parking_lot_rules.specs.Roles.{Owned, Shares, Mark, Open, Phase, Idle, Taken1, Taken2, Scans2, Stored1}
use Rattle.parking_lot_rules.specs.Roles.{Wakes, Role}
use Rattle.parking_lot_rules.specs.Clauses.{Word}
use Rattle.parking_lot_rules.specs.Lock.{Lock}
use Rattle.parking_lot_rules.specs.Plain.{to}
use Rattle.parking_lot_rules.specs.Steps.{Step, Alone, List_changes, Take1, Take2, Store, Wake, Pass, Allowed, after}
use Rattle.parking_lot_rules.specs.Steps.{listing_to, scanning, taking, ends_saying, waking_to}
use Rattle.parking_lot_rules.specs.Family.{First, Second, key, crossing, Family, put, IsFree, entered_after}

-- What a thread owns of each lock, which lock it is at, and what it is doing there.
pub record Place : Type 0 where
  pub owns : ℕ → Owned
  pub at : ℕ
  pub does : Phase

-- A word for each lock, a list for each key, a place for each thread, and for each bucket who has entered it.
pub record World : Type 0 where
  pub words : ℕ → Word
  pub queues : ℕ → List ℕ
  pub places : List Place
  pub entered : ℕ → Option ℕ

-- what a thread does, seen from the lock that it is at, or from another
abbrev pub seen : Bool → Phase → Phase
seen true phase = phase
seen false phase = Idle

abbrev pub role_at : ℕ → Place → Role
role_at i p = record { owns = p.owns i; does = seen (p.at == i) p.does }

-- one lock of the world
abbrev pub lock_at : World → ℕ → Lock
lock_at w i = record {
  word = w.words i;
  roles = map (role_at i) w.places;
  first = w.queues (key i First);
  second = w.queues (key i Second);
}

abbrev pub family : World → Family Lock
family w = record { locks = lock_at w; entered = w.entered }

-- a list with one element changed
abbrev pub change : {A : Type 0} → (A → A) → List A → ℕ → List A
change f [] t = []
change f (x ∷ xs) zero = f x ∷ xs
change f (x ∷ xs) (suc t) = x ∷ change f xs t

-- a place with another role at lock j
abbrev pub with_role : ℕ → Role → Place → Place
with_role j r p = record { owns = put p.owns j r.owns; at = j; does = r.does }

-- what a thread learns that t has taken and not told yet
abbrev pub told_by : ℕ → Mark → Phase → Phase
told_by t mark (Taken1 mode by Open stay) = Taken1 mode by (if by == t then mark else Open) stay
told_by t mark phase = phase

abbrev pub heard : Bool → ℕ → Mark → Phase → Phase
heard true t mark phase = told_by t mark phase
heard false t mark phase = phase

-- at lock j alone
abbrev pub tell : ℕ → ℕ → Mark → Place → Place
tell j t mark p = record p { does = heard (p.at == j) t mark p.does }

-- The places once thread t has made a step at lock j: its own changes, and that of a thread that it takes or wakes, or
-- those of all that it tells.
abbrev pub places_after : ℕ → ℕ → Step → List Place → List Place
places_after j t (Alone k) ps = change (with_role j (to k)) ps t
places_after j t (List_changes k) ps = change (with_role j (listing_to k)) ps t
places_after j t (Take1 s i v m stay) ps =
    change (with_role j (record { owns = Shares 0; does = Taken1 m t Open stay }))
    (change (with_role j (scanning (taking s v m))) ps t) v
places_after j t (Take2 o v f stay) ps =
    change (with_role j (record { owns = Shares 0; does = Taken2 f t stay }))
    (change (with_role j (record { owns = o; does = Scans2 (v ∷ []) })) ps t) v
places_after j t (Store e s) ps = change (with_role j (record { owns = s.owns; does = Stored1 s.taken }))
    (map (tell j t (ends_saying e)) ps) t
places_after j t (Wake o v us k stay) ps = change (with_role j (record { owns = o; does = Wakes us }))
    (change (with_role j (waking_to k)) ps v) t
places_after j t (Pass o ws v us) ps = change (with_role j (record { owns = o; does = Wakes (ws ++ us) })) ps t

-- the world after it; `bucket` says which bucket a key is in
abbrev pub world_after : (ℕ → ℕ) → ℕ → ℕ → Step → World → World
world_after bucket j t step w = record {
  words = put w.words j (after t step (lock_at w j)).word;
  queues = put (put w.queues (key j First) (after t step (lock_at w j)).first) (key j Second)
      (after t step (lock_at w j)).second;
  places = places_after j t step w.places;
  entered = entered_after bucket w.entered j t (crossing step);
}

-- Thread t may make the step at lock j: it is there, or doing nothing; the lock allows it; and where it enters a
-- section, nobody has entered the bucket.
pub record MayStep (bucket : ℕ → ℕ) (recursive : ℕ → Bool) (j t : ℕ) (step : Step) (w : World) : Type 0 where
  pub place : Place
  pub here : slice_get w.places t ≡ Some place
  pub there : (place.at ≡ j) ⊎ (place.does ≡ Idle)
  pub allowed : Allowed (recursive j) t step (lock_at w j)
  pub free : IsFree bucket w.entered j (crossing step)
