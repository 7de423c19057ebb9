-- A table of tags: how the tags of its slots agree with what stands in them.
use Rattle.std.specs.Prelude.{◌≡◌, ℕ, ◌+◌, ◌-◌, ◌/◌, ◌%◌, ◌<◌, ◌≤◌, ◌==◌, min, max, Bool, List, length, Option, Some}
use Rattle.std.specs.Prelude.{None, count_by, slice_index}
use Rattle.dashmap_table.specs.Tags.Way.{tag_of, windows_of, on_way}
use Rattle.dashmap_table.specs.declared.entry.Entry.{Entry}
use Rattle.dashmap_table.specs.Slots.{at, count, AreDistinct}

-- how many windows there are
abbrev pub windows_in : List ℕ → ℕ
windows_in tags = windows_of (length tags)

-- of so many slots none in a window that is on the way of a hash to this one is as P says
abbrev pub NoneOnWay : ℕ → (ℕ → Type 0) → ℕ → ℕ → Type 0
NoneOnWay slots P hash window = (k j l : ℕ) → k < windows_of slots → on_way (windows_of slots) hash k ≡ window → j < k
    → l < slots
    → l / 16 ≡ on_way (windows_of slots) hash j → ¬ P l

-- none of them has a tag as P says
abbrev pub NoneBefore : (ℕ → Type 0) → List ℕ → ℕ → ℕ → Type 0
NoneBefore P tags hash window = NoneOnWay (length tags) (λ l. P (slice_index tags l)) hash window

-- a slot that nothing was put into
abbrev pub IsEmpty : ℕ → Type 0
IsEmpty tag = tag ≡ 255

-- a slot with nothing in it
abbrev pub IsFree : ℕ → Type 0
IsFree tag = 128 ≤ tag

-- the first slot on the way of a hash with nothing in it, up to its window
pub record IsPlace (tags : List ℕ) (hash i : ℕ) : Type 0 where
  pub within : i < length tags
  pub free : IsFree (slice_index tags i)
  pub first : NoneBefore IsFree tags hash (i / 16)

-- the first slot that isn't below one and has something in it
pub record IsFullFrom (tags : List ℕ) (from i : ℕ) : Type 0 where
  pub above : from ≤ i
  pub within : i < length tags
  pub full : slice_index tags i < 128
  pub first : (j : ℕ) → from ≤ j → j < i → IsFree (slice_index tags j)

-- every window is whole, unless there are fewer slots than a window has
abbrev pub IsWhole : List ℕ → Type 0
IsWhole tags = 16 ≤ length tags → length tags % 16 ≡ 0

-- into how many slots nothing was put
abbrev pub empties : List ℕ → ℕ
empties tags = count_by (λ tag. tag == 255) tags

-- for how many pairs so many slots have room
abbrev pub room_of : ℕ → ℕ
room_of slots = slots - max (slots / 8) 1

-- a slot with nothing in it
abbrev pub no_entry : (K V : Type 0) → Option (Entry K V)
no_entry K V = None

module _ {K V : Type 0} where
  pub record IsTagged (tags : List ℕ) (slots : List (Option (Entry K V))) : Type 0 where
    pub long : length tags ≡ length slots
    -- a full slot has its hash's tag
    pub full : (i : ℕ) (e : Entry K V) → at slots i ≡ Some e → slice_index tags i ≡ tag_of e.hash
    pub low : (i : ℕ) (e : Entry K V) → at slots i ≡ Some e → slice_index tags i < 128
    pub free : (i : ℕ) → i < length tags → at slots i ≡ None → IsFree (slice_index tags i)
    -- the way of a hash doesn't end before the slot that has it
    pub reach : (i : ℕ) (e : Entry K V) → at slots i ≡ Some e → NoneBefore IsEmpty tags e.hash (i / 16)

  -- what holds of every table, with so many full slots and room for so many more
  pub record IsTable (eq : K → K → Bool) (tags : List ℕ) (slots : List (Option (Entry K V))) (full left : ℕ) : Type 0
    where
      pub distinct : AreDistinct eq slots
      pub counted : full ≡ count slots
      pub tagged : IsTagged tags slots
      pub whole : IsWhole tags
      -- a slot is always empty, unless there is none at all
      pub kept : left + min 1 (length tags) ≤ empties tags
