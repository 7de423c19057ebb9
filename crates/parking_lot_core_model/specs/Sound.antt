-- What is true of each lot.
use Rattle.std.specs.Prelude.{◌≡◌, ℕ, ◌≤◌, ◌<◌, ◌%◌, true, false, if◌then◌else◌, List, [], length, Option, Some, None}
use Rattle.std.specs.Prelude.{count_by}
use Rattle.std.specs.Option.{option_map_or}
use Rattle.parking_lot_core_model.specs.declared.place.Place.{Place}
use Rattle.parking_lot_core_model.specs.declared.place.Place.TheVariants.{Running}
use Rattle.parking_lot_core_model.specs.declared.place.Section.{Section}
use Rattle.parking_lot_core_model.specs.Chains.{WaiterLists, total, room}
use Rattle.parking_lot_core_model.specs.Places.{place_at, waits_at, is_waiting, is_held, is_near, may_join}
use Rattle.parking_lot_core_model.specs.Machine.{Machine, is_thread, bucket_of, open_at}

-- how often a thread is to stand in the key's list
abbrev pub times_at : ℕ → Option Place → ℕ
times_at key place = if option_map_or (waits_at key) place false then 1 else 0

-- the sections that are open, by bucket, and who is in them
pub record SectionsFit (buckets : ℕ) (sections : ℕ → Option Section) (inside : ℕ → Option ℕ) : Type 0 where
  pub some : 0 < buckets
  -- a section is open in the bucket of its key
  pub bucket : (b : ℕ) (section : Section) → sections b ≡ Some section → section.key % buckets ≡ b
  -- its thread is in it, and who is in a section is its thread
  pub owner : (b : ℕ) (section : Section) (thread : ℕ) → sections b ≡ Some section → section.thread ≡ Some thread
      → inside thread ≡ Some section.key
  pub entered : (thread key : ℕ) → inside thread ≡ Some key
      → (section : Section) × (sections (key % buckets) ≡ Some section) × (section.key ≡ key)
      × (section.thread ≡ Some thread)

-- a section of the key is open
abbrev pub IsOpen : Machine → ℕ → Type 0
IsOpen m key = (section : Section) × (open_at m key ≡ Some section) × (section.key ≡ key)

pub record Sound (m : Machine) : Type 0 where
  -- a waiting thread stands once in its key's list, and nobody stands elsewhere
  pub waits : (thread key : ℕ) → count_by (is_thread thread) (m.queues key) ≡ times_at key (place_at m.places thread)
  -- nobody is held but by a section that is open
  pub held : (thread key : ℕ) → option_map_or (is_held key) (place_at m.places thread) false ≡ true → IsOpen m key
  -- who is in a section, and may still join the list, runs
  pub inside : (b : ℕ) (section : Section) (thread : ℕ) → m.sections b ≡ Some section → section.thread ≡ Some thread
      → may_join section.phase ≡ true → place_at m.places thread ≡ Some Running
  -- who is in a section of a key runs, or fell asleep in that key's list
  pub near : (thread key : ℕ) → m.inside thread ≡ Some key
      → option_map_or (is_near key) (place_at m.places thread) false ≡ true
  pub fit : SectionsFit m.buckets m.sections m.inside
  -- a free number has no resources
  pub owned : (thread : ℕ) → place_at m.places thread ≡ None → m.resources thread ≡ []

-- the section is the one that the thread is in, of its own key; where it may still join the list its thread runs
pub record IsInside (m : Machine) (thread : ℕ) (section : Section) : Type 0 where
  pub at : open_at m section.key ≡ Some section
  pub whose : section.thread ≡ Some thread
  pub inside : m.inside thread ≡ Some section.key
  pub alone : (b : ℕ) (other : Section) → m.sections b ≡ Some other → other.thread ≡ Some thread
      → b ≡ bucket_of m section.key
  pub runs : may_join section.phase ≡ true → place_at m.places thread ≡ Some Running

-- there is room for each registered thread to wait, and to be in a section
pub record Room (waiting : WaiterLists) (places : List (Option Place)) (max_threads seats : ℕ)
    : Type 0 where
  pub waits : total waiting ≤ count_by (λ place. option_map_or is_waiting place false) places
  pub room : length places ≤ room waiting
  pub enters : length places ≤ seats
  pub threads : length places ≤ max_threads
  pub limit : max_threads ≤ 131072
