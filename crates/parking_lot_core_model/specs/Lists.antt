-- A map from numbers to lists, kept as one list of entries.
use Rattle.std.specs.Prelude.{◌≡◌, ℕ, Bool, ◌==◌, if◌then◌else◌, List, length, map, filter, take, Some}
use Rattle.std.specs.Prelude.{slice_get, remove}
use Rattle.std.specs.List.{position_or_len}
use Rattle.parking_lot_core_model.specs.declared.lists.Entry.{Entry}
use Rattle.parking_lot_core_model.specs.declared.lists.Lists.{Lists}

-- the map with this value at the key
abbrev pub updated : {X : Type 0} → (ℕ → X) → ℕ → X → ℕ → X
updated f key x k = if k == key then x else f k

-- the list without its first element that passes
abbrev pub without_first : {X : Type 0} → (X → Bool) → List X → List X
without_first p xs = remove xs (position_or_len p xs)

-- the entry is of the key's list
abbrev pub is_under : {T : Type 0} → ℕ → Entry T → Bool
is_under key entry = entry.key == key

-- each key's list: the items of its entries, in their order
abbrev pub lists_of : {T : Type 0} → List (Entry T) → ℕ → List T
lists_of entries key = map (λ e. e.item) (filter (is_under key) entries)

-- the same of the code's map
abbrev pub kept : {T A : Type 0} → Lists T A → ℕ → List T
kept lists = lists_of lists.entries.items

-- at this index stands the key's entry with that many of its entries before it
pub record IsNth {T : Type 0} (entries : List (Entry T)) (key nth at : ℕ) (item : T) : Type 0 where
  pub there : slice_get entries at ≡ Some (record { key = key; item = item })
  pub before : length (lists_of (take at entries) key) ≡ nth
